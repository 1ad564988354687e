pub mod Links
pub mod Order
pub mod Fill
pub mod Internal
pub mod Turn
pub mod Places
