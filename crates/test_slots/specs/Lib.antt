pub mod BlinkValue
pub mod FlipValue
pub mod Flipped
