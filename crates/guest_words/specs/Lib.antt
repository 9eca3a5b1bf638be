pub mod Given
pub mod Words
