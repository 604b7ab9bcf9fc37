-- The crate's lemmas.
pub mod Below
pub mod Tables
pub mod Parts
pub mod Balance
pub mod Reach
pub mod Settled
pub mod Moves
pub mod Walk
pub mod Partial
pub mod Stuck
pub mod Runs
mod Filled
mod Steps
mod Scanning
mod Tests
mod Rounds
mod Trails
mod Searches
pub mod Once
mod Back
pub mod Bounds
mod Running
