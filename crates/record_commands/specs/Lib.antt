pub mod Rows
pub mod Saved
pub mod Tables
pub mod Exploring
pub mod Replayed
