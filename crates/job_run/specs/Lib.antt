pub mod Report
pub mod Ends
pub mod Job
pub mod Status
pub mod WriteBacks
