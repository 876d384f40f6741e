pub mod Loads
mod Steps
mod OneSeed
