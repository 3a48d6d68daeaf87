pub mod Parted
pub mod Points
pub mod Redone
pub mod Saved
