pub mod Through
mod Ordered
pub mod Passes
