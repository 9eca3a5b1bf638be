pub mod RowLaws
pub mod Places
pub mod RefusedWords
pub mod RowTexts
pub mod SavedRows
pub mod SoFar
