pub mod JsonText
pub mod Members
pub mod Shapes
pub mod Names
