pub mod Drivers
pub mod Events
pub mod Outside
pub mod Words
