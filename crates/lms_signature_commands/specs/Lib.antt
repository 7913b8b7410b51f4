pub mod Judging
pub mod SignInMemory
pub mod SignLogs
pub mod Signing
pub mod Verdicts
pub mod VerifyInMemory
pub mod VerifyLogs
pub mod VerifyTurns
