pub mod Outputs
pub mod Statuses
pub mod Heeded
pub mod Purged
