pub mod Application
pub mod Commands
pub mod UsageArguments
