-- What is proved of a page's pattern of blanks.
mod Odd
pub mod Takers
pub mod World
pub mod Guard
pub mod Converse
