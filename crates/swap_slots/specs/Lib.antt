pub mod Slot
pub mod FuseValue
pub mod PoolValue
