pub mod Conversation
pub mod InputLines
pub mod Answers
pub mod Lines
pub mod ReplyText
