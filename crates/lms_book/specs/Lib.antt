pub mod Books
pub mod Faults
pub mod History
pub mod Lives
pub mod Memory
pub mod States
pub mod Stops
