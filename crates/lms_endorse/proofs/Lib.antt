pub mod EndorseInMemory
pub mod EndorseTurns
pub mod Endorsements
pub mod Orders
