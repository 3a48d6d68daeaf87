pub mod KnownBytes
pub mod ShelfLemmas
pub mod SinkLemmas
pub mod SourceLemmas
