-- What the crate's contracts cite.
pub mod Audit
pub mod Auditing
pub mod Example
pub mod Publishing
pub mod Text
pub mod Worlds
pub mod Written
