pub mod CacheLaws
pub mod Places
pub mod ReadyLaws
pub mod CrowdLaws
pub mod Rows
