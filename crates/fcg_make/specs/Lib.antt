pub mod Entries
pub mod Steps
pub mod Needs
pub mod Unwritable
pub mod Layout
pub mod Answers
pub mod Internal
