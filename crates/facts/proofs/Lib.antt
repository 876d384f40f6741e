pub mod Counting
pub mod Tests
pub mod Lists
pub mod Places
