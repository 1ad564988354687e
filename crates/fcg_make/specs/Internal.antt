-- Words of the contracts of private functions: no public contract needs them.
pub mod Places
pub mod Splits
pub mod Words
pub mod Small
pub mod Parts
