pub mod Desks
pub mod Shared
