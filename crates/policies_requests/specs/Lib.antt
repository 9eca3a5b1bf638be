pub mod Options
pub mod Formats
pub mod Requested
