pub mod Starts
pub mod Written
