-- What the crate's contracts cite.
pub mod Survey
pub mod Page
pub mod Promise
pub mod Refused
pub mod Model
pub mod Format
pub mod Reading
pub mod Lending
