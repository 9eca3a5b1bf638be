pub mod EntryChangeLaws
pub mod EntryLaws
pub mod EntryWordLaws
pub mod NewTableLaws
pub mod WriteLaws
pub mod TreeCalls
pub mod TableWords
pub mod Translation
