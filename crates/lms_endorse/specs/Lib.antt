pub mod Endorsing
pub mod Orders
pub mod EndorseLogs
pub mod EndorseInMemory
pub mod EndorseTurns
