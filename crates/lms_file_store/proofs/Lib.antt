pub mod Sent
pub mod Keeping
pub mod Steps
