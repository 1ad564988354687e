pub mod CodeValues
pub mod Internal
