pub mod Packages
pub mod Handing
pub mod OverLaws
pub mod Selecting
pub mod Lines
pub mod SpecialLaws
