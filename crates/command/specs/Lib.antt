-- What the crate's contracts cite.
pub mod Call
pub mod Limits
pub mod Parts
pub mod Talk
