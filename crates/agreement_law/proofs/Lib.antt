pub mod Accepted
pub mod EventTruth
pub mod FrameStart
pub mod FrameEnd
pub mod Shown
pub mod OneUse
pub mod Runs
