pub mod Along
pub mod Parts
pub mod Extending
pub mod Recorded
pub mod Looking
pub mod Meets
