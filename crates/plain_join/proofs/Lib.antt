pub mod Canon
pub mod Buffers
pub mod Sweeps
pub mod Worlds
pub mod Effects
pub mod Calls
pub mod Instructions
pub mod Ticks
