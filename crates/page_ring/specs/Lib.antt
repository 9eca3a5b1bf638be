pub mod Linked
pub mod Chain
pub mod Index
pub mod Slots
