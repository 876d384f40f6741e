pub mod Pins
pub mod Named
pub mod Wires
pub mod Tied
pub mod CellGates
pub mod CellStates
pub mod CellElements
