pub mod GivenUp
pub mod Intact
pub mod Lacks
pub mod Marks
pub mod Reads
pub mod Recording
pub mod Serving
pub mod Shown
