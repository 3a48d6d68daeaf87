pub mod Putting
pub mod Reading
pub mod Forgetting
pub mod Turns
pub mod Ends
