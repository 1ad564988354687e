-- The sets of the worked cases, and the short form in which they are written.
pub mod Computed
pub mod ShortForm
pub mod Sets
pub mod Choices
pub mod Conditions
