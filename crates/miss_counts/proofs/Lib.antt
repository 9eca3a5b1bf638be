pub mod ServingLaws
pub mod ZippedLaws
mod Doublings
mod Powers
mod Seen
pub mod Sizes
pub mod Floors
pub mod RowLaws
pub mod RowsLaws
pub mod ReplayLaws
pub mod WriteBackLaws
