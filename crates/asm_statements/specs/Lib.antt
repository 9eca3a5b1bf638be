pub mod Effects
pub mod Instructions
pub mod Lists
pub mod Mnemonics
pub mod Parts
pub mod SameStatements
pub mod Shapes
pub mod Statements
