-- Words of the contracts of private functions: no public contract needs them.
pub mod Numbering
pub mod Collected
pub mod Tables
pub mod Gaps
pub mod Mentions
pub mod Below
pub mod Inherited
pub mod Searched
pub mod Nodes
pub mod Signatures
pub mod PartNames
pub mod PartRows
pub mod TypeHeads
pub mod TypeNumbers
pub mod MethodRows
pub mod Supers
