pub mod Places
pub mod Staying
pub mod Joining
pub mod Keeping
pub mod SliceSteps
pub mod AccessPages
pub mod CallPages
pub mod StepParts
