-- Lemmas of the crate.
pub mod Example
pub mod OneAnswer
pub mod Same
pub mod Sums
mod Letting
pub mod Auditing
