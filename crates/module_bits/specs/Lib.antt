pub mod Names
pub mod Bits
pub mod Sized
pub mod Ports
pub mod Readings
pub mod Noted
pub mod Laws
