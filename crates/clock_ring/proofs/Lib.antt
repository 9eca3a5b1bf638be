pub mod CountedLaws
pub mod KeptLaws
pub mod MoveLaws
pub mod PassLaws
pub mod PurgeLaws
pub mod ScanLaws
pub mod StepLaws
pub mod TrimLaws
