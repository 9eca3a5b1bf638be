-- The steps of the event of a page that is to leave its frame: the look at it, and what is kept and replied after it.
use Rattle.std.specs.Prelude.{◌≡◌, ℕ, List, [], ◌∷◌, ◌++◌, IfSome, Some, slice_get, slice_set}
use Rattle.page_store.specs.JobValue.{JobValue}
use Rattle.paged_memory.specs.Paged.{memory_of}
use Rattle.swap_slots.specs.PoolValue.{PoolValue}
use Rattle.machine_core.specs.declared.error.EventRefusal.TheVariants as refusal
use Rattle.machine_core.specs.declared.event.Reply.{Reply}
use Rattle.machine_core.specs.declared.event.Reply.TheVariants as reply
use Rattle.machine_sides.specs.Collecting.{Looks}
use Rattle.machine_sides.specs.Returning.{CanReturn}
use Rattle.machine_sides.specs.Sides.{PagerSideValue}
use Rattle.machine_sides.specs.declared.collecting.Looked.{Looked}
use Rattle.machine_sides.specs.declared.collecting.Looked.TheVariants.{NotLeaving, NotYet, Freed, Dirty, NoSlot}
use Rattle.space_core.specs.StandsFor.{SpaceValue}

module _ {S : Type 0} where
  -- the list takes back the page of a number, of the process of another one
  abbrev pub CanReturnAt : ℕ → ℕ → PagerSideValue → List (SpaceValue S) → Type 0
  CanReturnAt number vpn pager processes = IfSome (slice_get processes number) (CanReturn vpn pager)

  -- a look at a page of the process of this number
  pub record LooksAt (held : S → List ℕ) (honest : Type 0) (number vpn : ℕ) (pager pager' : PagerSideValue) (slots slots' : PoolValue S) (old new : List (SpaceValue S)) (looked : Looked S) : Type 0 where
    pub process : SpaceValue S
    pub process' : SpaceValue S
    pub found : slice_get old number ≡ Some process
    pub how : Looks vpn pager pager' process process' slots slots' looked
    pub memory : honest → memory_of held process'.memory ≡ memory_of held process.memory
    pub is : new ≡ slice_set old number process'

  -- what comes of a look at a page that is leaving
  abbrev pub IsOwn : Looked S → Type 0
  IsOwn NotLeaving = ⊥
  IsOwn NotYet = Unit {0}
  IsOwn Freed = Unit {0}
  IsOwn (Dirty job) = Unit {0}
  IsOwn NoSlot = Unit {0}

  -- the saves that are out after it, and the reply
  abbrev pub jobs_after : Looked S → List (JobValue S) → List (JobValue S)
  jobs_after NotLeaving jobs = jobs
  jobs_after NotYet jobs = jobs
  jobs_after Freed jobs = jobs
  jobs_after (Dirty job) jobs = jobs ++ job ∷ []
  jobs_after NoSlot jobs = jobs

  abbrev pub looked_reply : Looked S → Reply
  looked_reply NotLeaving = reply.Refused refusal.NotLeaving
  looked_reply NotYet = reply.NotYet
  looked_reply Freed = reply.Freed
  looked_reply (Dirty job) = reply.Dirty
  looked_reply NoSlot = reply.NoSlot
