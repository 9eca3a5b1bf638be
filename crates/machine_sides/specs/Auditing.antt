-- What an audit counts of one process beside the pager, and what it looks for over all of them.
use Rattle.std.specs.Prelude.{◌≡◌, ℕ, ⊤, ◌+◌, ◌≤◌, ◌*◌, ◌^◌, true, List, [], ◌∷◌, length, Some, slice_get}
use Rattle.clock_policy.specs.Residents.{residents}
use Rattle.machine_sides.specs.Agreeing.{Agree}
use Rattle.machine_sides.specs.Held.{is_resident_of}
use Rattle.machine_sides.specs.Together.{residents_in, frames_in, key_of}
use Rattle.paged_memory.specs.declared.counting.HeldPages.{HeldPages}
use Rattle.pager_core.specs.Pager.{PagerState}
use Rattle.space_core.specs.StandsFor.{SpaceValue}

-- the sum of a number over all of a list
unfoldable pub total : {A : Type 0} → (A → ℕ) → List A → ℕ
total f [] = 0
total f (x ∷ xs) = f x + total f xs

-- so many pages are all that the pager knows of: as many entries are resident, and no frame is lost
pub record HoldsAll (pager : PagerState) (found : HeldPages) : Type 0 where
  pub all : residents pager.list (λ _. true) ≡ found.resident
  pub framed : length pager.free + found.framed ≡ pager.size

module _ {S : Type 0} where
  -- how many pages of a process are resident, and how many hold a frame
  abbrev pub resident_pages : SpaceValue S → ℕ
  resident_pages space = residents_in space (λ _. true)

  abbrev pub framed_pages : SpaceValue S → ℕ
  framed_pages space = frames_in space (λ _. true)

  -- a process is the one of its number, and of the list's resident entries as many are of its resident pages as it has of these
  pub record IsListed (pager : PagerState) (number : ℕ) (space : SpaceValue S) : Type 0 where
    pub process : space.memory.process ≡ number
    pub pages : residents pager.list (is_resident_of space) ≡ resident_pages space

  -- the same of processes that are numbered from one on
  unfoldable pub AreListed : PagerState → ℕ → List (SpaceValue S) → Type 0
  AreListed pager number [] = ⊤
  AreListed pager number (space ∷ rest) = IsListed pager number space × AreListed pager (number + 1) rest

  -- one process more was counted
  pub record CountsMore (pager : PagerState) (number : ℕ) (space : SpaceValue S) (found more : HeldPages) : Type 0 where
    pub listed : IsListed pager number space
    pub resident : more.resident ≡ found.resident + resident_pages space
    pub framed : more.framed ≡ found.framed + framed_pages space
    pub few_resident : more.resident ≤ (number + 1) * 2 ^ 20
    pub few_framed : more.framed ≤ (number + 1) * 2 ^ 20

  -- Processes that are numbered from 0 are all so listed; the list has no resident entry besides; and the frames that are free or in their
  -- pages are as many as the machine was made with.
  pub record AreSound (pager : PagerState) (spaces : List (SpaceValue S)) : Type 0 where
    pub each : AreListed pager 0 spaces
    pub all : residents pager.list (λ _. true) ≡ total resident_pages spaces
    pub framed : length pager.free + total framed_pages spaces ≡ pager.size

  -- what that comes to, page by page: the list has a page of one of these processes as a resident one exactly where it is resident
  abbrev pub AgreeEverywhere : PagerState → List (SpaceValue S) → Type 0
  AgreeEverywhere pager spaces = (number : ℕ) (space : SpaceValue S) → slice_get spaces number ≡ Some space → (vpn : ℕ) → Agree pager space (key_of number vpn)
