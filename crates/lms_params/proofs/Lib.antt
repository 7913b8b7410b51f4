pub mod Filling
pub mod KnownSets
pub mod Widths
