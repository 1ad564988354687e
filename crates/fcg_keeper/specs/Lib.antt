pub mod Causes
pub mod Records
pub mod Script
pub mod Crash
pub mod Opening
pub mod Objects
pub mod Internal
