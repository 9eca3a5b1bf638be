pub mod Nearest
pub mod Objects
pub mod Sections
pub mod SymbolTables
