pub mod ReadingLaws
pub mod Alone
pub mod AtOnce
pub mod Passing
pub mod Points
pub mod Room
pub mod Trimmed
pub mod Watching
