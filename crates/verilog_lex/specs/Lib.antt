pub mod Bytes
pub mod Blanks
pub mod Words
pub mod Keyword
pub mod Numbers
pub mod Pieces
pub mod Rows
pub mod Reads
