pub mod SameStatus
pub mod Cleans
pub mod FlatRuns
pub mod Growing
pub mod Showing
pub mod Reported
pub mod Turns
pub mod Standing
