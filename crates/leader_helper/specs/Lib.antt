pub mod Stages
pub mod Leads
pub mod First
pub mod Turns
pub mod Begins
pub mod Sweep
pub mod Saving
