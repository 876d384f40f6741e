pub mod Arena
pub mod BoardPlan
pub mod Names
