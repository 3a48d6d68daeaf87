pub mod Threads
pub mod Lists
pub mod Clients
