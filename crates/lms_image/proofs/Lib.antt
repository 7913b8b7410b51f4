pub mod Cuts
pub mod Faultless
pub mod Faults
pub mod Fields
pub mod Images
pub mod LevelTexts
pub mod Parts
