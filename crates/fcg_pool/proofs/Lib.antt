pub mod ConstantLemmas
pub mod TagLemmas
pub mod PlaceLemmas
pub mod GroupLemmas
pub mod Layouts
pub mod StandingLemmas
