mod Members
mod Woken
mod Taken
mod Turns
pub mod Chains
pub mod Unique
pub mod Since
