pub mod BodyState
