pub mod Marks
pub mod Restored
pub mod Runs
pub mod Turns
