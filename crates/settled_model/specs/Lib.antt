pub mod Held
pub mod Steps
pub mod Clocked
pub mod Passing
pub mod Opening
pub mod Runs
