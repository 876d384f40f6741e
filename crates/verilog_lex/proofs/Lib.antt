pub mod Values
pub mod BlankSteps
pub mod Cutting
pub mod Reserved
pub mod Within
pub mod Rows
pub mod OneAnswer
