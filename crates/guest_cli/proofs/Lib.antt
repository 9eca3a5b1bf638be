pub mod Begun
pub mod CountedSteps
pub mod OutputGrows
pub mod OutputPieces
pub mod Pieces
pub mod TracedSteps
