pub mod What
pub mod Words
pub mod Forms
pub mod Faults
pub mod Cycles
pub mod Results
pub mod Reading
pub mod Cases
