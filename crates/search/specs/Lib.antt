-- What the crate's contracts cite.
pub mod Examples
pub mod Lacking
pub mod Moves
pub mod Outcomes
pub mod Ranking
pub mod Search
pub mod Trials
