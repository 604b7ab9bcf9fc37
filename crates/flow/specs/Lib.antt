-- What the crate's contracts cite.
pub mod Afoot
pub mod Closed
pub mod Raising
pub mod Searching
pub mod Standing
pub mod Ways
