pub mod ClockScript
pub mod DriveScript
pub mod ReplyText
