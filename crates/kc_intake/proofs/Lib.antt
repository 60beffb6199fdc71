mod Lists
mod Passes
mod Sending
mod Draining
mod Joining
mod Shapes
mod Alone
