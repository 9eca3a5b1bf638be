pub mod AsmRun
pub mod FlatRun
