pub mod Names
pub mod Mentions
pub mod Declarations
pub mod Seen
pub mod Nets
pub mod Rows
pub mod Surveys
