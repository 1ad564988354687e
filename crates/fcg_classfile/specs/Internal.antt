-- Words of the contracts of private functions of readers: no public contract needs them.
pub mod Group
