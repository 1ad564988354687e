-- Words of the contracts of private functions: no public contract needs them.
pub mod Rows
pub mod Search
pub mod Turn
pub mod Places
