pub mod Sincere
pub mod RequestTexts
pub mod ScriptedRequests
pub mod Pieces
pub mod inside
