pub mod Joining
pub mod JoinTurns
pub mod JoinInMemory
