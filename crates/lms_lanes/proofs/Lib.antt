pub mod Absorbed
pub mod ChainText
pub mod EndsText
pub mod Heads
pub mod Lanes
pub mod Majority
pub mod OneBlock
pub mod Walks
