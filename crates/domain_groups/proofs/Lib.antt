mod Collected
mod Faulty
pub mod FirstPorts
mod FittingEvents
mod FrameRows
mod GroupNets
mod Items
mod MemberRows
mod NodeMarks
mod OneOpening
pub mod OnePath
mod OneRecording
mod Placed
mod Spreading
mod TableBits
mod WriteMarks
pub mod Zips
