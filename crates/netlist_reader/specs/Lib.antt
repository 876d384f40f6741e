pub mod Cuts
pub mod Digits
pub mod Faults
pub mod Forms
pub mod Inside
pub mod Netlist
pub mod Stops
pub mod Wires
