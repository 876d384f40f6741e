pub mod Checks
pub mod Events
pub mod Given
pub mod Opened
pub mod PathIndex
pub mod Runs
pub mod Settings
pub mod Values
