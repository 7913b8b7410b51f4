pub mod Fields
pub mod Joins
pub mod Through
