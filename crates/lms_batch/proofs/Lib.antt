pub mod Slots
pub mod Sent
pub mod Seen
