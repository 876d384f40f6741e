pub mod Far
pub mod Free
mod Giving
mod Telling
