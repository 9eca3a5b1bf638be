-- How pages give back what they have, one after another, and where it goes.
use Rattle.std.specs.Prelude.{◌≡◌, ◌⊎◌, ℕ, ◌+◌, ◌++◌, ◌^◌, ◌<◌, Bool, length, List, [], ◌∷◌, Option, Some, None}
use Rattle.frame_pool.specs.FrameValue.{FrameValue}
use Rattle.swap_slots.specs.PoolValue.{PoolValue}
use Rattle.paged_memory.specs.moves.Moving.{GivesBelow, IsGiven, IsLeft, SameTablesIn, given_below, given_frame, given_slot}
use Rattle.paged_memory.specs.moves.Moving as moving
use Rattle.paged_memory.specs.Whole.{slots_within}
use Rattle.pager_core.specs.Pager.{PagerState}
use Rattle.space_core.specs.StandsFor.{SpaceValue}
use Rattle.machine_sides.specs.Sides.{MovesMemory}
use Rattle.machine_sides.specs.Together.{frames_where, frames_in}

-- what there may be, as a list of none or one
abbrev pub as_list : {A : Type 0} → Option A → List A
as_list None = []
as_list (Some a) = a ∷ []

-- a frame comes free, if there is one
abbrev pub FreesAnyFrame : Option FrameValue → PagerState → PagerState → Type 0
FreesAnyFrame frame old new = new ≡ record old { free = old.free ++ as_list frame }

module _ {S : Type 0} where
  -- a slot comes into its pool, if there is one
  abbrev pub PoolsAnySlot : Option S → PoolValue S → PoolValue S → Type 0
  PoolsAnySlot slot old new = new ≡ record old { free = old.free ++ as_list slot }

  -- Some pages gave back what they had. The frames follow those that were free before, and the slots follow those that were in the pool
  -- before. They are all that the pages below a number had to give, by rising number. No table goes, and what is reserved stays.
  pub record GivesSome (pager pager' : PagerState) (pool pool' : PoolValue S) (old new : SpaceValue S) : Type 0 where
    pub frames : List FrameValue
    pub slots : List S
    pub pager_is : pager' ≡ record pager { free = pager.free ++ frames }
    pub pool_is : pool' ≡ record pool { free = pool.free ++ slots }
    pub framed : (test : ℕ → Bool) → frames_where test frames + frames_in new test ≡ frames_in old test
    pub slotted : length slots + slots_within new.memory ≡ slots_within old.memory
    pub named : GivesBelow frames slots old.memory new.memory
    pub tabled : SameTablesIn old.memory new.memory
    pub reserved : new.memory.reserved ≡ old.memory.reserved
    pub stays : new ≡ record old { memory = new.memory }
    pub process : new.memory.process ≡ old.memory.process
    pub each : (number : ℕ) → number < 2 ^ 20 → IsGiven old.memory new.memory number ⊎ IsLeft old.memory new.memory number

  -- every page that had something has given it back, and no cache holds a translation
  abbrev pub GivesAll : SpaceValue S → SpaceValue S → Type 0
  GivesAll old new = MovesMemory moving.GivesAll old new

  -- the pages' frames are free, and their slots in the pool, by rising number of their pages
  pub record GivesToPools (pager pager' : PagerState) (pool pool' : PoolValue S) (old new : SpaceValue S) : Type 0 where
    pub frames : List FrameValue
    pub slots : List S
    pub pager_is : pager' ≡ record pager { free = pager.free ++ frames }
    pub pool_is : pool' ≡ record pool { free = pool.free ++ slots }
    pub framed : (test : ℕ → Bool) → frames_where test frames + frames_in new test ≡ frames_in old test
    pub slotted : length slots + slots_within new.memory ≡ slots_within old.memory
    pub frames_named : frames ≡ given_below given_frame old.memory (2 ^ 20)
    pub named : slots ≡ given_below given_slot old.memory (2 ^ 20)
    pub gives : GivesAll old new
