pub mod Heads
pub mod Orders
pub mod Verifying
pub mod Walks
