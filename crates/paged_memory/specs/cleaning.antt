pub mod Cleaning
pub mod Copies
