mod ArrivalLaws
pub mod LengthLaws
pub mod WaitingLaws
pub mod NumberLaws
