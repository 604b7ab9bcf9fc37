-- What the crate's contracts cite.
pub mod Barring
pub mod Finding
pub mod Least
pub mod Scratched
