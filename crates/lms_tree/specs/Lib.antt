pub mod Bands
pub mod Held
pub mod Kept
pub mod Served
pub mod TreeKey
