pub mod Grammar
pub mod Laws
pub mod Parsing
pub mod Predict
pub mod Source
pub mod Terminal
