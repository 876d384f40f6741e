pub mod Least
pub mod Uses
