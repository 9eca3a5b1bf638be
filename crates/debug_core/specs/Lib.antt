pub mod Debugging
pub mod Limits
pub mod Points
pub mod Progresses
pub mod RefusalNumber
pub mod Seen
pub mod Stops
