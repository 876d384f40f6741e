pub mod Cyclic
pub mod Search
