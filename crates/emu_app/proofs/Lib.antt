pub mod Fetches
pub mod Readings
pub mod FirstUnread
pub mod Recordings
mod Agreeing
pub mod Comes
pub mod Endings
mod Refusals
pub mod Cases
pub mod FreeTests
pub mod Judging
pub mod Completing
pub mod Settling
pub mod Replaying
