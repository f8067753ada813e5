pub mod LastLaws
pub mod RoomLaws
pub mod SlotLaws
pub mod UntypedLaws
pub mod ViewLaws
pub mod Views
