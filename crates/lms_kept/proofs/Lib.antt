pub mod KeptTexts
pub mod Plans
pub mod SignatureLengths
pub mod SignedByText
pub mod TextLengths
pub mod Texts
pub mod Ways
