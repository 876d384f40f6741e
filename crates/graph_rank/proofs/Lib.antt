pub mod Cuts
pub mod Marks
pub mod Searches
pub mod Finished
pub mod Walks
pub mod Sorting
pub mod Rankings
pub mod Deciding
