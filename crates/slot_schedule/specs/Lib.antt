pub mod Settings
pub mod Deliveries
pub mod ListPlan
pub mod Frames
pub mod Laws
pub mod Ordered
