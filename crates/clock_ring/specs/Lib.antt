pub mod BodyState
pub mod RingState
