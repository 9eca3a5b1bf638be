pub mod Brought
pub mod Audited
