pub mod Records
pub mod AsOne
pub mod Inputs
pub mod Accepted
pub mod Contents
pub mod Running
pub mod Slots
pub mod PutBack
