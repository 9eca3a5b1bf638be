pub mod Accesses
pub mod Flows
pub mod StepsToCome
pub mod Telling
