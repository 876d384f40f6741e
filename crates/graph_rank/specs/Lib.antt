pub mod Rows
pub mod Ranks
pub mod Cycles
pub mod Stored
pub mod Search
pub mod Answers
pub mod Walk
pub mod Places
