pub mod Facts
pub mod Truth
pub mod Gates
pub mod Slots
