pub mod Numbers
pub mod Text
pub mod Calls
pub mod Lines
