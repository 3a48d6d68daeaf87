pub mod Words
pub mod Contents
pub mod Frames
pub mod Stores
pub mod Seen
pub mod Unseen
pub mod Parts
pub mod Loads
