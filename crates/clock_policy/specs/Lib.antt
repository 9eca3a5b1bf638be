pub mod Bound
pub mod ClockPro
pub mod FrameCounts
pub mod Lawful
pub mod RefusalNumber
pub mod Residents
pub mod SingleMoves
pub mod Text
