pub mod ArithmeticLaws
pub mod LineLaws
pub mod AccessLaws
pub mod BoundsLaws
pub mod LeavesLaws
pub mod Replacing
pub mod RegistersLaws
