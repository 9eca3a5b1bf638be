pub mod FirstReport
pub mod FlatReport
