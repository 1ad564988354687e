pub mod Targets
pub mod Status
pub mod Limits
pub mod Names
pub mod Internal
