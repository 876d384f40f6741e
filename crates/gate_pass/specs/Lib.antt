pub mod Bounds
pub mod Gates
pub mod Inside
pub mod Readers
pub mod Since
