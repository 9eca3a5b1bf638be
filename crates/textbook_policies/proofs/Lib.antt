pub mod MruLaws
pub mod GClockLaws
pub mod CarLaws
pub mod RankLaws
pub mod LruKLaws
mod MruPlayLaws
mod GClockPlayLaws
mod RankPlayLaws
mod CarPlayLaws
