pub mod FramedLaws
pub mod TickedLaws
pub mod WsClockLaws
mod UsesPlayLaws
mod WsClockPlayLaws
mod TickedPlayLaws
