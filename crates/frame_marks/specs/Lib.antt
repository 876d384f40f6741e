pub mod Frames
pub mod Tables
pub mod Standing
pub mod Takes
pub mod Starts
