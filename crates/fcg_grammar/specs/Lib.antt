pub mod Reading
pub mod Rows
pub mod Number
pub mod Spell
pub mod First
pub mod Table
