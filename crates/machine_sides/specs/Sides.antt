-- The pager with its counts, and moves of only a process's memory.
use Rattle.std.specs.Prelude.{◌≡◌, ℕ}
use Rattle.paged_memory.specs.Paged.{PagedValue}
use Rattle.pager_core.specs.Pager.{PagerState}
use Rattle.space_core.specs.StandsFor.{SpaceValue}

-- the pager, with how many pages' frames came free once they were saved, and how many with no save
pub record PagerSideValue : Type 0 where
  pub pager : PagerState
  pub saves : ℕ
  pub drops : ℕ

module _ {S : Type 0} where
  -- a process's memory moves so, and nothing else of the process
  pub record MovesMemory (by : PagedValue S → PagedValue S → Type 0) (old new : SpaceValue S) : Type 0 where
    pub moves : by old.memory new.memory
    pub stays : new ≡ record old { memory = new.memory }
