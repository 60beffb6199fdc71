-- Lists, tests and counts of what passes.
mod Tests
mod Adding
mod Members
mod Buckets
mod Pairs
mod Rows
mod Bounds
-- One range: its counts, its lists, and what it tells and hears.
mod Watching
mod Seen
mod Following
mod Staying
mod Stopping
mod Leaving
mod Beginning
mod Meeting
mod Hearing
mod Inside
-- All ranges, one after another or dealt to threads.
mod Joined
mod Flat
mod Nearest
mod Making
mod Copying
mod Direct
mod Summing
mod Shared
mod Halting
mod Lifting
mod Beginners
mod Parting
mod Coming
mod Anew
mod Kept
-- A sweep as sets of vertices, whatever the ranges are.
mod Efforts
mod Stepping
mod Sweeps
mod Together
mod SweepSame
-- The step of a sweep, call by call: `RoundCalls` is what its code cites.
mod RoundParts
mod MetRows
mod RoundRising
mod RoundLifted
mod RoundTold
mod RoundBefore
mod RoundCounts
mod RoundWaits
mod RoundMeets
mod RoundKept
mod Round
mod RoundAsks
mod RoundRiseAsks
mod RoundCalls
-- A phase from end to end.
mod Filled
mod Followed
mod Ready
mod Linked
mod Phases
