-- The crate's lemmas.
pub mod BarLaw
mod Judged
mod Leaving
pub mod Ranges
pub mod Least
pub mod OneOrOther
pub mod Scratched
