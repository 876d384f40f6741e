pub mod Ending
pub mod Loads
pub mod Writes
pub mod Sampled
pub mod Told
pub mod Whole
