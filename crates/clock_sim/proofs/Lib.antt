pub mod StepLaws
pub mod PutLaws
pub mod SendLaws
pub mod GroupLaws
pub mod TurnLaws
pub mod WrittenLaws
