pub mod NetlistText
pub mod Shown
pub mod HexDigits
