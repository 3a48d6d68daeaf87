pub mod Owners
pub mod RoomLaws
pub mod Progress
pub mod Steps
pub mod Clears
pub mod Commits
