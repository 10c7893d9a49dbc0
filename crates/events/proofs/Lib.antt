pub mod ReplyLaws
pub mod ShownLaws
