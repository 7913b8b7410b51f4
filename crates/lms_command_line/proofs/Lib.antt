pub mod Building
pub mod CommandLine
pub mod FullRows
pub mod Parsing
pub mod Stops
