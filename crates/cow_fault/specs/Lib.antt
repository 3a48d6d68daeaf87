pub mod Faults
pub mod Events
