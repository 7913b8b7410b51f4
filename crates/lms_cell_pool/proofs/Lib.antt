pub mod Steps
pub mod Views
pub mod Seats
pub mod Ends
pub mod Sent
