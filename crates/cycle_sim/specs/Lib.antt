pub mod Standing
pub mod Values
pub mod Passes
pub mod Tables
pub mod Takes
pub mod Loading
pub mod Judged
