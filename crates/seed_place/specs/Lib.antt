pub mod Rooms
pub mod Seed
pub mod Choice
