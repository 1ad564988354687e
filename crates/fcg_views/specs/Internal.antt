-- Words of the contracts of private functions: no public contract needs them.
pub mod EscapeTables
pub mod ClassSteps
pub mod DescriptorBounds
pub mod Spans
pub mod UriParts
