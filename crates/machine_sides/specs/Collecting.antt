-- A page that is to leave its frame is looked at: what becomes of its process, of the pager and of the free slots.
use Rattle.std.specs.Prelude.{◌≡◌, ◌≢◌, ℕ, Bool, false, Option, Some, None, List, [], ◌∷◌, ◌++◌, length}
use Rattle.frame_pool.specs.FrameValue.{FrameValue}
use Rattle.page_store.specs.JobValue.{JobValue}
use Rattle.page_store.specs.declared.answer.Collected.{Collected}
use Rattle.page_store.specs.declared.answer.Collected.TheVariants as answer
use Rattle.pager_core.specs.Pager.{tallied}
use Rattle.paged_memory.specs.moves.Moving.{IsHeldStill, WantsSlot, GoesToBacking, GoesToBeSaved, slot_in}
use Rattle.paged_memory.specs.moves.Stages.{is_leaving_stage}
use Rattle.space_core.specs.StandsFor.{SpaceValue}
use Rattle.swap_slots.specs.PoolValue.{PoolValue}
use Rattle.machine_sides.specs.Admitting.{stage_at}
use Rattle.machine_sides.specs.Returning.{ComesBack}
use Rattle.machine_sides.specs.Sides.{PagerSideValue, MovesMemory}
use Rattle.machine_sides.specs.declared.collecting.Looked.{Looked}
use Rattle.machine_sides.specs.declared.collecting.Looked.TheVariants.{NotLeaving, NotYet, Freed, Dirty, NoSlot}

-- the frame of an unchanged page is free, and counted
abbrev pub FreesDropped : FrameValue → PagerSideValue → PagerSideValue → Type 0
FreesDropped frame old new = new ≡ record old { pager = record old.pager { free = old.pager.free ++ frame ∷ [] }; drops = tallied old.drops }

module _ {S : Type 0} where
  -- whether the page of a number is leaving, whatever the number
  abbrev pub is_leaving_at : SpaceValue S → ℕ → Bool
  is_leaving_at space vpn = is_leaving_stage (stage_at space vpn)

  -- no cache holds a translation of it, and no copy of it is out; it counts as changed and has no slot, and none is free
  pub record LacksSlot (vpn : ℕ) (space : SpaceValue S) (slots : PoolValue S) : Type 0 where
    pub wants : WantsSlot vpn space.memory
    pub empty : slots.free ≡ []

  -- an unchanged page that no cache holds goes to its backing, and lets this frame go
  abbrev pub Drops : ℕ → FrameValue → SpaceValue S → SpaceValue S → Type 0
  Drops vpn frame old new = MovesMemory (GoesToBacking vpn frame) old new

  -- which slot a job takes: the page's own, or else one that was free
  abbrev pub TakesSlot : Option S → S → List S → List S → Type 0
  TakesSlot (Some own) slot free free' = (slot ≡ own) × (free' ≡ free)
  TakesSlot None slot free free' = free ≡ free' ++ slot ∷ []

  -- a changed page that no cache holds is copied into a job, with its slot or else a free one, and is being saved
  pub record StartsSaving (vpn : ℕ) (job : JobValue S) (old new : SpaceValue S) (slots slots' : PoolValue S) : Type 0 where
    pub moves : GoesToBeSaved vpn job old.memory new.memory
    pub stays : new ≡ record old { memory = new.memory }
    pub slot : TakesSlot (slot_in old.memory vpn) job.slot slots.free slots'.free
    pub size : slots'.size ≡ slots.size

  module _ {L : Type 0} (vpn : ℕ) (old new : SpaceValue S) (slots slots' : PoolValue S) where
    -- what a look at a page comes to, before the pager has a part in it
    abbrev pub Finds : Collected L S → Type 0
    Finds answer.NotLeaving = (is_leaving_at old vpn ≡ false) × ((new ≡ old) × (slots' ≡ slots))
    Finds answer.NotYet = IsHeldStill vpn old.memory × ((new ≡ old) × (slots' ≡ slots))
    Finds (answer.Clean frame) = Drops vpn frame old new × (slots' ≡ slots)
    Finds (answer.Dirty job) = StartsSaving vpn job old new slots slots'
    Finds answer.NoSlot = LacksSlot vpn old slots × ((new ≡ old) × (slots' ≡ slots))

  module _ (vpn : ℕ) (pager pager' : PagerSideValue) (old new : SpaceValue S) (slots slots' : PoolValue S) where
    -- nothing changes
    pub record StaysAll : Type 0 where
      pub pager_stays : pager' ≡ pager
      pub process_stays : new ≡ old
      pub slots_stay : slots' ≡ slots

    -- a cache holds a translation of the page, or a copy of it is out: it stays
    pub record IsNotYet : Type 0 where
      pub held : IsHeldStill vpn old.memory
      pub stays : StaysAll

    -- the page goes to its backing, and its frame is free
    pub record IsDropped : Type 0 where
      pub frame : FrameValue
      pub drops : Drops vpn frame old new
      pub frees : FreesDropped frame pager pager'
      pub slots_stay : slots' ≡ slots

    -- the page is being saved
    pub record IsCopied (job : JobValue S) : Type 0 where
      pub saving : StartsSaving vpn job old new slots slots'
      pub pager_stays : pager' ≡ pager

    -- no slot is there for the page: it is taken back by the list and resident again
    pub record LacksAndReturns : Type 0 where
      pub lacks : LacksSlot vpn old slots
      pub returns : ComesBack vpn pager pager' old new
      pub slots_stay : slots' ≡ slots

    -- what a look at a page comes to, by its answer
    abbrev pub Looks : Looked S → Type 0
    Looks NotLeaving = (is_leaving_at old vpn ≡ false) × StaysAll
    Looks NotYet = IsNotYet
    Looks Freed = IsDropped
    Looks (Dirty job) = IsCopied job
    Looks NoSlot = LacksAndReturns
