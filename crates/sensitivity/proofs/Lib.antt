-- Lemmas of the crate; those marked `pub` serve the crates above too.
pub mod Empty
mod Pushed
pub mod TwoLargest
