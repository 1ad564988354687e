-- Words of the contracts of private functions: no public contract needs them.
pub mod RowPlaces
pub mod Written
pub mod Mentions
pub mod StandingRows
pub mod Representation
pub mod UsedNumbers
pub mod NameTable
