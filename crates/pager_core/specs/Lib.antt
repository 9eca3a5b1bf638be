pub mod Pager
pub mod Refusals
