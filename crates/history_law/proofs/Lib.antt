pub mod Naming
pub mod Following
pub mod Ranges
pub mod Equations
pub mod Afterwards
pub mod WordBounds
pub mod Untouched
