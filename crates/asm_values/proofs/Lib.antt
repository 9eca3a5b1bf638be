pub mod EachLaws
pub mod RangeLaws
pub mod EscapeLaws
pub mod EscapeLemmas
pub mod NameLemmas
