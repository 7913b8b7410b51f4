pub mod Logged
pub mod NodesStaying
pub mod SignInMemory
pub mod SigningTurns
pub mod VerifyInMemory
pub mod VerifyTurns
