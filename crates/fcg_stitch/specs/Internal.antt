-- Words of the contracts of private functions: no public contract needs them.
pub mod References
pub mod Rows
pub mod Calling
pub mod Tables
pub mod Distinct
