pub mod Places
pub mod Blanks
pub mod Numbers
