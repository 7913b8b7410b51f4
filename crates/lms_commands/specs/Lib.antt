pub mod Expectations
pub mod Faults
pub mod Histories
pub mod InMemory
pub mod Logs
pub mod Watching
