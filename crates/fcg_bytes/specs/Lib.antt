pub mod Causes
pub mod Files
pub mod Known
pub mod Objects
pub mod Standard
pub mod Internal
