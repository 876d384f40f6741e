pub mod Latencies
mod OneAnswer
mod Distances
mod Parents
