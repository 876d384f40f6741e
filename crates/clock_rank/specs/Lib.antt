pub mod Orders
pub mod Cycles
pub mod Answers
pub mod Numbers
