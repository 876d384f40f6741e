pub mod Rows
pub mod Links
pub mod BitRows
pub mod Words
