pub mod Restores
pub mod Whole
pub mod Contents
