pub mod Acceptance
pub mod Denials
pub mod Heads
pub mod LmsParts
pub mod SameParts
