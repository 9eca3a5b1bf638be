pub mod Standing
pub mod Done
pub mod Listing
pub mod Keeping
pub mod Runs
