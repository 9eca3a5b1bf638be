pub mod Counting
pub mod Opened
pub mod Replaying
pub mod Streaming
pub mod Writing
