pub mod LevelTexts
pub mod Seeds
pub mod SizedTexts
pub mod Witnesses
pub mod Workers
