pub mod CountedSteps
pub mod EndedHarts
pub mod FollowedHarts
pub mod ListedKeys
pub mod PendingCalls
