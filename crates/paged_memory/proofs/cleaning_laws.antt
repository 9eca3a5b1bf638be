pub mod CopiesLaws
pub mod CopiesToldLaws
pub mod CopiesMoveLaws
pub mod CleanLaws
pub mod CleanBarLaws
pub mod CopiesCallLaws
pub mod CleaningLaws
pub mod StoresToldLaws
