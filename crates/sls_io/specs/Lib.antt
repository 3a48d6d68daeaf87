pub mod Faults
pub mod MemShelf
pub mod Shelf
pub mod Sink
pub mod Source
