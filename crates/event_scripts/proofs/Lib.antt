pub mod CleaningWords
pub mod Passed
