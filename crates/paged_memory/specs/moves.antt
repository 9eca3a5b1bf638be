pub mod Leaving
pub mod Filling
pub mod GivingBack
pub mod PageStatus
pub mod Stages
pub mod Moving
