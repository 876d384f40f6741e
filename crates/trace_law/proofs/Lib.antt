pub mod Spots
pub mod Histories
pub mod Breaks
pub mod Kept
pub mod Given
pub mod Alike
