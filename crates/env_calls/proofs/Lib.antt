pub mod CallLaws
pub mod StepLaws
pub mod FinishingLaws
pub mod LiveLaws
pub mod LeavingLaws
pub mod Marks
