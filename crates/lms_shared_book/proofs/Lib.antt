pub mod DeskSums
pub mod Reserved
