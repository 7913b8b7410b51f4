pub mod Faults
pub mod Image
pub mod Laws
pub mod Reading
