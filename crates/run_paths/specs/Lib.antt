pub mod Paths
pub mod Extending
pub mod Meeting
pub mod Searches
