pub mod Chips
pub mod Inside
pub mod Orders
