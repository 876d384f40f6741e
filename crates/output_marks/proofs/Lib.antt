mod Counts
mod Kept
mod OfChips
mod Through
