-- What the laws say.
pub mod Statements
pub mod ByName
pub mod ChainParts
pub mod Methods
pub mod Searches
pub mod HandedOn
pub mod Tables
