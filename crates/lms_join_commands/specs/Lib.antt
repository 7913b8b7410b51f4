pub mod JoinLogs
pub mod Requests
pub mod JoinInMemory
pub mod Joined
