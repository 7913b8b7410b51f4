pub mod Accepted
pub mod Cuts
pub mod InspectInMemory
pub mod InspectTurns
pub mod Inspecting
pub mod Lines
pub mod Long
pub mod SaidIndices
