pub mod Reached
pub mod Walk
pub mod Sweep
