pub mod Answered
pub mod BegunSteps
pub mod CountedRuns
pub mod Debugged
pub mod FlatRuns
pub mod TracedRuns
pub mod TurnRuns
