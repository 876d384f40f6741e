pub mod Readings
pub mod CycleNodes
mod Netlists
mod NoResults
pub mod ResultTexts
mod Faulty
mod OneCases
