-- The pages of an ended process give back their frames and slots.
use Rattle.std.specs.Prelude.{◌≡◌, ℕ, ◌+◌, ◌^◌, ◌<◌, ◌≤◌, true, Option, Some, None, List}
use Rattle.frame_pool.specs.FrameValue.{FrameValue}
use Rattle.page_store.specs.PageValue.{PageValue, Purged, is_out}
use Rattle.page_store.specs.Moves.{given_back}
use Rattle.sv32_table.specs.Entry.{blank}
use Rattle.sv32_table.specs.EntryAt.{ChangesEntry}
use Rattle.paged_memory.specs.Calls.{ChangesBy}
use Rattle.paged_memory.specs.Counting.{page_passes}
use Rattle.paged_memory.specs.Paged.{page_at}

module _ {S : Type 0} where
  -- a page gives back its frame and its slot, and is given up
  abbrev pub GivesBack : Option FrameValue × Option S → PageValue S → PageValue S → Type 0
  GivesBack given old new = (given_back old.place ≡ Some given) × (new ≡ record old { place = Purged })

  -- there is nothing that a page gives back: it is not mapped, has neither frame nor slot, is being saved, or a copy of it is out
  abbrev pub GivesNothing : Option (PageValue S) → Type 0
  GivesNothing (Some page) = given_back page.place ≡ None
  GivesNothing None = Unit {0}

  -- the first page that has something gives it back, and is unmapped
  pub record GivesOne (given : Option FrameValue × Option S) (old new : List (ℕ × PageValue S)) (tables tables' : List (List ℕ)) : Type 0 where
    pub number : ℕ
    pub small : number < 2 ^ 20
    pub first : (q : ℕ) → q < number → GivesNothing (page_at old q)
    pub pages : ChangesBy (GivesBack given) old new number
    pub entries : ChangesEntry tables tables' number blank

  -- a number is one above that of a page that has something, and that page is not below the one where the search began
  pub record LiesBehind (pages : List (ℕ × PageValue S)) (from next : ℕ) : Type 0 where
    pub number : ℕ
    pub next_is : next ≡ number + 1
    pub looked : from ≤ number
    pub something : ¬ GivesNothing (page_at pages number)

  -- bytes of some page are out with a job: it is being saved, or a copy of it is out
  pub record SavesOne (pages : List (ℕ × PageValue S)) : Type 0 where
    pub number : ℕ
    pub small : number < 2 ^ 20
    pub out : page_passes (λ page. is_out page.place) (page_at pages number) ≡ true
