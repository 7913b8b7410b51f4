pub mod Calls
pub mod Events
pub mod Files
pub mod Held
pub mod Names
pub mod Notes
pub mod Outcomes
