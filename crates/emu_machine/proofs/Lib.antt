pub mod OneSlot
mod Again
mod Counted
mod Entries
mod Least
