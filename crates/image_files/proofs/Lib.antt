pub mod Given
pub mod ImageFaults
pub mod WholeInput
pub mod WordLines
pub mod ZeroSlots
