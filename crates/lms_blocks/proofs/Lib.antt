pub mod Consumed
pub mod Fronts
