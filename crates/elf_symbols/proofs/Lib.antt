pub mod CalledSymbols
pub mod LastSymbols
pub mod SectionHeaders
pub mod Standing
