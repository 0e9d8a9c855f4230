-- Definitions that only proofs and private functions use. No clause of a public call cites them.
pub mod Answered
pub mod Callers
pub mod Changes
pub mod EventRuns
pub mod FixedReplies
pub mod Hubs
pub mod TokenTable
pub mod NumberedHubs
pub mod FixedPage
pub mod Isolation
pub mod Roomless
pub mod Streamed
pub mod Replies
pub mod Knowledge
