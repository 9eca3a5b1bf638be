pub mod Causes
pub mod Ending
pub mod Counts
pub mod FlatLines
pub mod Telling
pub mod Turns
