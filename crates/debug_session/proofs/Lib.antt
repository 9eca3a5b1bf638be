pub mod Passed
pub mod TakenLines
pub mod RegisterLines
pub mod FullerLines
