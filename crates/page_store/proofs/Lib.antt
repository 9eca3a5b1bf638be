pub mod PartLaws
pub mod Seals
pub mod CleaningLaws
