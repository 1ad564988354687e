pub mod Path
pub mod Bundle
pub mod Pack
pub mod Internal
