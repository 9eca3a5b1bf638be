pub mod Commands
pub mod Requests
pub mod Usage
pub mod Reads
