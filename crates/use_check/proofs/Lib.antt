pub mod Walk
pub mod Claims
pub mod Cells
pub mod Noting
pub mod Using
pub mod Numbering
pub mod Looking
