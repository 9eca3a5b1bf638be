pub mod Mru
pub mod GClock
pub mod Car
pub mod Ranks
pub mod Lfu
pub mod LruK
