pub mod Films
pub mod Pictures
pub mod Processes
