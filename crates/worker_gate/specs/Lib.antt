-- Definitions of a worker's loop over an engine under the lock.
pub mod Picks
pub mod Turns
pub mod Ends
