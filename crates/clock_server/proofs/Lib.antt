mod EffectLaws
mod TakenTexts
mod Untouched
mod AcceptedLaws
mod Walking
mod Closed
pub mod Telling
mod Served
mod Ends
mod Bytes
mod GenerationLaws
mod LeftOut
mod Gets
mod MirroredLaws
