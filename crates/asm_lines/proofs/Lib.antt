pub mod NumberLaws
pub mod TokenLaws
pub mod Fronts
pub mod Numerals
pub mod OperandSteps
