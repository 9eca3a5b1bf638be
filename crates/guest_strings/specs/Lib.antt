pub mod References
pub mod Slices
pub mod ToCome
pub mod Wanting
pub mod Told
pub mod InsnPages
pub mod Yields
