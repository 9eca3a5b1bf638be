pub mod Classes
pub mod Stands
pub mod Following
pub mod Code
pub mod Running
pub mod Lines
