-- Words of the contracts of private functions: no public contract needs them.
pub mod Index
pub mod Register
pub mod Steps
pub mod Restored
pub mod Asked
