pub mod Kinds
pub mod Replies
pub mod Shown
