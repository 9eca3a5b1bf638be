pub mod FilledFiles
pub mod NameLaws
pub mod ObjectLaws
pub mod WordLaws
