pub mod Replies
pub mod Joining
