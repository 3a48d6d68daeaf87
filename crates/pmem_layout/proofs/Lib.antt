pub mod OwnerLemmas
pub mod RoomLemmas
