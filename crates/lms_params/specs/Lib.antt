pub mod Faults
pub mod LmsType
pub mod OtsType
