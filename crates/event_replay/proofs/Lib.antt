mod Answering
mod Entered
mod EventInputs
mod GivenInputs
mod Growing
mod HexDigits
mod InRange
mod InputBits
mod Judging
mod Leading
mod Ones
mod Opened
mod OutputBits
mod Pieces
mod ReadDigits
mod ReadWords
pub mod RunGrowth
mod SameNames
mod SettledRuns
mod Sifting
mod Told
pub mod TraceGrowth
mod Valued
