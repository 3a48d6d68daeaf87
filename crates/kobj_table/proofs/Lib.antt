pub mod Runs
pub mod States
pub mod Fresh
pub mod Nothing
