pub mod FormatLaws
pub mod BitsLaws
pub mod TableLaws
pub mod SplitLaws
pub mod FormLaws
pub mod Flattened
