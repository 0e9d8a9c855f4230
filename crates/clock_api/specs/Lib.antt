pub mod Bytes
pub mod Codes
pub mod Routes
pub mod Replies
pub mod ShownReply
pub mod inside
