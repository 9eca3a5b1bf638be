pub mod Cache
pub mod Crowds
pub mod Ready
