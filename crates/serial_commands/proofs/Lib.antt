pub mod Begun
pub mod Reported
mod LinesEnd
