pub mod Rounds
pub mod Opened
pub mod Carried
pub mod Alone
