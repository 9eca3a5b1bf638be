pub mod RootLaws
pub mod TwoListsLaws
mod TwoListsPlayLaws
