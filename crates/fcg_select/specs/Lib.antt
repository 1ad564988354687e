pub mod Instance
pub mod Internal
