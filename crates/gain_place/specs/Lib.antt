pub mod Homes
pub mod Cut
pub mod Gain
pub mod Descent
pub mod Lists
pub mod Tables
pub mod Spans
pub mod Worked
