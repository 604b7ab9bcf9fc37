-- The crate's lemmas.
pub mod Patterns
pub mod Witnesses
pub mod Order
pub mod One
pub mod Right
pub mod Steps
pub mod Deciding
mod Existence
pub mod Sorting
pub mod Examples
pub mod Listing
pub mod Keeping
mod Trying
pub mod Blanking
pub mod Printing
mod Bits
pub mod Shown
mod Outcomes
