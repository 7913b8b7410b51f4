pub mod BatchInMemory
pub mod BatchLogs
pub mod Batches
pub mod ServeInMemory
pub mod ServedLines
pub mod Serving
pub mod ServingTurns
pub mod SharedBooks
