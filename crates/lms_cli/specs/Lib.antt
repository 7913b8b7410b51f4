pub mod Deeds
pub mod Runs
pub mod RunLogs
pub mod RunTurns
pub mod RunsInMemory
