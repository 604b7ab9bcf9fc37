-- What the crate's contracts cite.
pub mod Blanks
pub mod Converse
