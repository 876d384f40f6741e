pub mod Timed
pub mod Ending
