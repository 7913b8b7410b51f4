pub mod Candidates
pub mod Ends
pub mod LaneChains
pub mod Orders
pub mod OtsParts
