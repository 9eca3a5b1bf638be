pub mod Counts
pub mod Views
pub mod WriterValue
pub mod ViewerValue
