pub mod Sketch
pub mod WTinyLfu
