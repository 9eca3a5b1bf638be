-- What a page map ends as, where a `&mut` to one of its values is returned.
use Rattle.std.specs.Prelude.{ℕ, List}
use Rattle.std.specs.Borrow.{Lends, Fml, RattleType, MutBor}
use Rattle.page_memory.specs.Entries.{with_value}
use Rattle.page_memory.specs.contracts.page_map.PageMap.{the_row}

module _ (T : RattleType) (pages : MutBor (List (ℕ × T.Denot))) (place : ℕ) where
  -- once the borrow ends, the place has the last value written through it
  abbrev pub LendsValue : MutBor T.Denot → Fml
  LendsValue value = Lends (the_row T) T pages value (with_value pages.now place)
