pub mod Uses
pub mod Framed
pub mod Ticked
pub mod WsClock
pub mod SecondChance
