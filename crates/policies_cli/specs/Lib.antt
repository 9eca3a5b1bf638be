pub mod Asked
pub mod Curves
pub mod Replays
pub mod Totals
pub mod Traces
