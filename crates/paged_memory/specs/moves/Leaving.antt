-- How a page that is leaving goes on: it is looked at, its save comes back, or it is mapped again.
use Rattle.std.specs.Prelude.{◌≡◌, ℕ, ◌^◌, ◌<◌, Bool, true, false, List, Option, Some, None, option_map, IsTrue}
use Rattle.frame_pool.specs.FrameValue.{FrameValue}
use Rattle.page_memory.specs.declared.rights.Rights.{Rights}
use Rattle.page_store.specs.JobValue.{SavedValue}
use Rattle.page_store.specs.Keeping.{Keeping}
use Rattle.page_store.specs.declared.answer.Collected.{Collected}
use Rattle.page_store.specs.declared.answer.Collected.TheVariants.{NotLeaving, NotYet, Clean, Dirty, NoSlot}
use Rattle.page_store.specs.declared.answer.SaveRefusal.{SaveRefusal}
use Rattle.page_store.specs.declared.answer.SaveRefusal.TheVariants.{WrongPage, Mismatch, Device}
use Rattle.page_store.specs.Moves.{collected, copy_of, IfSaving, RefusesSave}
use Rattle.page_store.specs.PageValue.{PageValue, Place, Saving, Away, page_state_of}
use Rattle.page_store.specs.PageValue as place
use Rattle.sv32_table.specs.Entry.{page_entry}
use Rattle.sv32_table.specs.EntryAt.{ChangesEntry}
use Rattle.paged_memory.specs.Paged.{page_at}
use Rattle.paged_memory.specs.Calls.{ChangesBy}
use Rattle.paged_memory.specs.moves.Stages.{is_leaving_stage}

-- whether a page was let go: to its backing, or to be saved
abbrev pub lets_go : {L : Type 0} {S : Type 0} → Collected L S → Bool
lets_go NotLeaving = false
lets_go NotYet = false
lets_go (Clean frame) = true
lets_go (Dirty job) = true
lets_go NoSlot = false

module _ {L : Type 0} {S : Type 0} (process vpn : ℕ) (cached : Bool) (spare spare' : Option S) (answer : Collected L S) where
  -- a look at a page, of which caches hold translations or none: where it is then, the spare slot that is left, and the
  -- answer
  abbrev pub Collects : PageValue S → PageValue S → Type 0
  Collects page page' = (page'.origin ≡ page.origin) × ((page'.place, (spare', answer)) ≡ collected process vpn cached page.place spare)

  -- the same of the page that is mapped at the number, if one is
  abbrev pub CollectsAt : List (ℕ × PageValue S) → List (ℕ × PageValue S) → Option (PageValue S) → Type 0
  CollectsAt old new (Some page) = ChangesBy Collects old new vpn
  CollectsAt old new None = (answer ≡ NotLeaving) × ((spare' ≡ spare) × (new ≡ old))

module _ {S : Type 0} where
  abbrev pub IsSaving : Option (PageValue S) → Type 0
  IsSaving (Some page) = IfSaving page.place (λ _ _. Unit {0})
  IsSaving None = ⊥

  -- a save that comes back is of a page of this process, which is being saved
  abbrev pub IsOut : ℕ → SavedValue S → List (ℕ × PageValue S) → Type 0
  IsOut process job pages = (job.process ≡ process) × ((job.vpn < 2 ^ 20) × IsSaving (page_at pages job.vpn))

  -- the page of a save changes so, and no other
  abbrev pub ChangesSaved : ℕ → SavedValue S → (PageValue S → PageValue S → Type 0) → List (ℕ × PageValue S) → List (ℕ × PageValue S) → Type 0
  ChangesSaved process job by old new = (job.process ≡ process) × ((job.vpn < 2 ^ 20) × ChangesBy by old new job.vpn)

  -- a page that was saved goes to its slot, and lets this frame go, which holds what was saved
  pub record Frees (job : SavedValue S) (frame : FrameValue) (page page' : PageValue S) : Type 0 where
    pub mark : Bool
    pub was : page.place ≡ Saving frame mark
    pub is : page' ≡ record page { place = Away (copy_of job) }
    pub same : frame.bytes ≡ job.copy
    pub passed : IsTrue job.passed

  -- why a save frees no frame, and what the page is then
  abbrev pub RefusesSaved : ℕ → SavedValue S → List (ℕ × PageValue S) → List (ℕ × PageValue S) → SaveRefusal S → Type 0
  RefusesSaved process job old new (WrongPage back) = (back ≡ job) × ((new ≡ old) × (¬ IsOut process job old))
  RefusesSaved process job old new Mismatch =
      ChangesSaved process job (λ page page'. (page'.origin ≡ page.origin) × RefusesSave job page.place page'.place Mismatch) old new
  RefusesSaved process job old new Device =
      ChangesSaved process job (λ page page'. (page'.origin ≡ page.origin) × RefusesSave job page.place page'.place Device) old new

  abbrev pub is_leaving_place : Place S → Bool
  is_leaving_place at = is_leaving_stage (Some (page_state_of at))

  -- whether a page is leaving
  abbrev pub is_leaving : Option (PageValue S) → Bool
  is_leaving page = is_leaving_stage (option_map (λ (p : PageValue S). page_state_of p.place) page)

  -- a page that is leaving is resident again, with what it keeps
  pub record Returns (mark : Bool) (page page' : PageValue S) : Type 0 where
    pub frame : FrameValue
    pub slot : Keeping S
    pub was : page.place ≡ place.Leaving frame slot mark
    pub is : page' ≡ record page { place = place.Resident frame slot }

  -- the same, with its frame's number and its rights
  pub record ReturnsAs (ppn : ℕ) (rights : Rights) (mark : Bool) (page page' : PageValue S) : Type 0 where
    pub returns : Returns mark page page'
    pub ppn_is : returns.frame.number ≡ ppn
    pub rights_is : page.origin.rights ≡ rights

  -- it is mapped as it was, with A clear, and D as it was when it began to leave
  pub record BringsBack (old new : List (ℕ × PageValue S)) (tables tables' : List (List ℕ)) (number : ℕ) : Type 0 where
    pub mark : Bool
    pub page : ChangesBy (Returns mark) old new number
    pub entry : ChangesEntry tables tables' number (page_entry page.how.frame.number page.page.origin.rights false mark)
