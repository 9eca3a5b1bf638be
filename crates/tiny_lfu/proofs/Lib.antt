pub mod SketchLaws
pub mod WTinyLfuPlayLaws
