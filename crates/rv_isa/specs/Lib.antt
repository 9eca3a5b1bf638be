pub mod Bits
pub mod Operands
pub mod Table
pub mod Split
pub mod Forms
