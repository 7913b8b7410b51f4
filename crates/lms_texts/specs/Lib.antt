pub mod Descriptions
pub mod Faults
pub mod Options
pub mod Seeds
pub mod Witnesses
