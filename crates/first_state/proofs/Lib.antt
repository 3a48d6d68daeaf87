pub mod Lists
pub mod Parts
pub mod Filled
pub mod SpecRegions
pub mod FillsUp
pub mod States
