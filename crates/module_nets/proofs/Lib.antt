mod Gathering
mod Judging
mod Numbering
mod OfKinds
mod Surveying
mod Uses
