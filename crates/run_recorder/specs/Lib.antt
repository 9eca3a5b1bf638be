pub mod Recorded
pub mod Requests
