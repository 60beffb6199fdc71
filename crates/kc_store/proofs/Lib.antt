pub mod lemmas
mod Limits
mod Points
mod Publishing
mod Beginning
mod Storing
mod Places
mod LastLevels
mod Forms
mod Seats
mod Loads
mod Growth
mod Phases
mod Joins
mod Calls
mod Views
mod PassViews
mod Shows
