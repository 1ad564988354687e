-- General lemmas: on lists, on numbers in a row, on lists that rise and on walks.
pub mod Members
pub mod Finding
pub mod Ranges
pub mod Sorted
pub mod Walking
pub mod Places
pub mod Numbered
