pub mod Cuts
pub mod Endorsements
pub mod Faults
pub mod Joined
pub mod Keys
pub mod Laws
