pub mod Edges
pub mod Entering
pub mod Joining
pub mod Coming
pub mod Closing
pub mod Steps
pub mod Shutting
