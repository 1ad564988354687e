-- Words of the contracts of private functions: no public contract needs them.
pub mod ConstantAt
pub mod Entry
pub mod Layout
