-- Lemmas of the crate; those marked `pub` serve the crates above too.
mod Decoding
pub mod Cells
pub mod Facts
pub mod Lending
mod Marks
pub mod Pushed
pub mod Spans
pub mod Totals
pub mod Witnesses
