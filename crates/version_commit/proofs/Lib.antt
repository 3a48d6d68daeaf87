pub mod Commits
pub mod OnWays
pub mod Places
pub mod Played
pub mod Steps
