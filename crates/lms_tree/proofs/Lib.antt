pub mod KeptLeaves
pub mod Rows
pub mod Served
pub mod Subtrees
