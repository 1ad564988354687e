-- Words of the contracts of private functions: no public contract needs them.
pub mod FirstIndexes
pub mod Names
pub mod Rows
pub mod Kept
pub mod Naming
pub mod Attributes
pub mod Calls
pub mod Methods
pub mod Members
pub mod Class
pub mod Sites
pub mod Handles
