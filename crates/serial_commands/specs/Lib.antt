pub mod Asked
pub mod Debugged
pub mod Playing
pub mod Replies
