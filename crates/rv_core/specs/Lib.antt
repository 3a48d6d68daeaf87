pub mod Effect
pub mod Ranges
