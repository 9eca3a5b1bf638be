pub mod Words
pub mod Prints
pub mod RecordLines
pub mod Records
pub mod Fitting
pub mod Replaying
