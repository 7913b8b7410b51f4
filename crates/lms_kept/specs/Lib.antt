pub mod Laws
pub mod Planned
pub mod Signed
pub mod Ways
