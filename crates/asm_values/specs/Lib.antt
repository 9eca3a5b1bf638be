pub mod Answers
pub mod Directives
pub mod Escapes
pub mod Lengths
pub mod Names
pub mod Operands
pub mod Ranges
pub mod Registers
