-- What a page becomes by each move, and what the move gives.
use Rattle.std.specs.Prelude.{◌≡◌, ◌≢◌, ℕ, Bool, true, false, Option, Some, None, Result, Ok, Err, IfSome, IsFalse}
use Rattle.sha2.specs.Sha256.{sha256}
use Rattle.swap_slots.specs.Slot.{Rose}
use Rattle.frame_pool.specs.FrameValue.{FrameValue}
use Rattle.page_store.specs.JobValue.{JobValue, SavedValue}
use Rattle.page_store.specs.declared.refusal.ReadFault.{ReadFault}
use Rattle.page_store.specs.declared.refusal.ReadFault.TheVariants as read_fault
use Rattle.page_store.specs.declared.refusal.FillFault.{FillFault}
use Rattle.page_store.specs.declared.refusal.FillFault.TheVariants as fault
use Rattle.page_store.specs.CopyValue.{CopyValue}
use Rattle.page_store.specs.PageValue.{PageValue, Place, Fresh, Resident, Leaving, Saving, Away, Purged, Matches, failures_at, slot_of}
use Rattle.page_store.specs.Keeping.{Keeping, NoSlot, Saved, Unbacked, Cleaning, CopyOut, kept, settled}
use Rattle.page_store.specs.declared.answer.Collected.{Collected}
use Rattle.page_store.specs.declared.answer.Collected.TheVariants as answer
use Rattle.page_store.specs.declared.answer.SaveRefusal.{SaveRefusal}
use Rattle.page_store.specs.declared.answer.SaveRefusal.TheVariants.{WrongPage, Mismatch, Device}
use Rattle.page_store.specs.declared.refusal.LeaveRefusal.{LeaveRefusal}
use Rattle.page_store.specs.declared.refusal.LeaveRefusal.TheVariants.{AlreadyLeaving, NotResident}

-- a page that begins to leave, with the dirty bit that its table entry had; a cleaning that has no copy ends
abbrev pub left : {S : Type 0} → Bool → Place S → Result (Place S) LeaveRefusal
left mark Fresh = Err NotResident
left mark (Resident frame slot) = Ok (Leaving frame (settled slot) mark)
left mark (Leaving frame slot old) = Err AlreadyLeaving
left mark (Saving frame old) = Err AlreadyLeaving
left mark (Away copy) = Err NotResident
left mark Purged = Err NotResident

-- a page that is leaving, mapped again, with the mark that it counts as changed
abbrev pub brought_back : {S : Type 0} → Place S → Option (Place S × Bool)
brought_back Fresh = None
brought_back (Resident frame slot) = None
brought_back (Leaving frame slot mark) = Some (Resident frame slot, mark)
brought_back (Saving frame mark) = None
brought_back (Away copy) = None
brought_back Purged = None

-- a frame with the slot at hand, unless a copy is out
abbrev pub given_framed : {S : Type 0} → FrameValue → Keeping S → Option (Option FrameValue × Option S)
given_framed frame NoSlot = Some (Some frame, None)
given_framed frame (Saved copy) = Some (Some frame, Some copy.slot)
given_framed frame (Unbacked slot) = Some (Some frame, slot)
given_framed frame (Cleaning slot) = Some (Some frame, slot)
given_framed frame CopyOut = None

-- what an ended process's page gives back: its frame and its slot; a page that is being saved, of which a copy is out, or that has neither, is left
abbrev pub given_back : {S : Type 0} → Place S → Option (Option FrameValue × Option S)
given_back Fresh = None
given_back (Resident frame slot) = given_framed frame slot
given_back (Leaving frame slot mark) = given_framed frame slot
given_back (Saving frame mark) = None
given_back (Away copy) = Some (None, Some copy.slot)
given_back Purged = None

-- a page, the spare slot that is left, and the answer
abbrev pub CollectedPage : Type 0 → Type 0 → Type 0
CollectedPage L S = Place S × (Option S × Collected L S)

-- a changed page is copied for a job that takes the slot
abbrev pub job_of : {S : Type 0} → ℕ → ℕ → FrameValue → S → JobValue S
job_of process vpn frame slot = record { process = process; vpn = vpn; copy = frame.bytes; slot = slot }

module _ {L : Type 0} {S : Type 0} (process vpn : ℕ) where
  -- a changed page with no slot of its own takes the spare one; with none it stays as it is
  abbrev pub with_spare : FrameValue → Keeping S → Bool → Option S → CollectedPage L S
  with_spare frame slot mark None = (Leaving frame slot mark, (None, answer.NoSlot))
  with_spare frame slot mark (Some spare) = (Saving frame mark, (None, answer.Dirty (job_of process vpn frame spare)))

  -- a page that nothing backs goes to be saved, in its slot or in the spare one
  abbrev pub save_unbacked : FrameValue → Keeping S → Option S → Bool → Option S → CollectedPage L S
  save_unbacked frame slot None mark spare = with_spare frame slot mark spare
  save_unbacked frame slot (Some taken) mark spare = (Saving frame mark, (spare, answer.Dirty (job_of process vpn frame taken)))

  -- a leaving page that no cache holds: an unchanged one is dropped to its backing, a changed one goes to be saved; one of which a copy
  -- is out waits for it
  abbrev pub let_go : FrameValue → Keeping S → Bool → Option S → CollectedPage L S
  let_go frame NoSlot false spare = (Fresh, (spare, answer.Clean frame))
  let_go frame NoSlot true spare = with_spare frame NoSlot true spare
  let_go frame (Saved copy) false spare = (Away copy, (spare, answer.Clean frame))
  let_go frame (Saved copy) true spare = (Saving frame true, (spare, answer.Dirty (job_of process vpn frame copy.slot)))
  let_go frame (Unbacked slot) mark spare = save_unbacked frame (Unbacked slot) slot mark spare
  let_go frame (Cleaning slot) mark spare = save_unbacked frame (Cleaning slot) slot mark spare
  let_go frame CopyOut mark spare = (Leaving frame CopyOut mark, (spare, answer.NotYet))

  abbrev pub collect_leaving : FrameValue → Keeping S → Bool → Bool → Option S → CollectedPage L S
  collect_leaving frame slot mark true spare = (Leaving frame slot mark, (spare, answer.NotYet))
  collect_leaving frame slot mark false spare = let_go frame slot mark spare

  -- a look at a page, of which caches hold translations or none
  abbrev pub collected : Bool → Place S → Option S → CollectedPage L S
  collected cached Fresh spare = (Fresh, (spare, answer.NotLeaving))
  collected cached (Resident frame slot) spare = (Resident frame slot, (spare, answer.NotLeaving))
  collected cached (Leaving frame slot mark) spare = collect_leaving frame slot mark cached spare
  collected cached (Saving frame mark) spare = (Saving frame mark, (spare, answer.NotLeaving))
  collected cached (Away copy) spare = (Away copy, (spare, answer.NotLeaving))
  collected cached Purged spare = (Purged, (spare, answer.NotLeaving))

-- the page in its slot that a save made
abbrev pub copy_of : {S : Type 0} → SavedValue S → CopyValue S
copy_of job = record { slot = job.slot; digest = sha256 job.copy }

-- of a page that is being saved, with its frame and the mark that it took along
abbrev pub IfSaving : {S : Type 0} → Place S → (FrameValue → Bool → Type 0) → Type 0
IfSaving Fresh P = ⊥
IfSaving (Resident frame slot) P = ⊥
IfSaving (Leaving frame slot mark) P = ⊥
IfSaving (Saving frame mark) P = P frame mark
IfSaving (Away copy) P = ⊥
IfSaving Purged P = ⊥

-- why a save that comes back does not free the frame, and what the page is then
abbrev pub RefusesSave : {S : Type 0} → SavedValue S → Place S → Place S → SaveRefusal S → Type 0
RefusesSave job old new (WrongPage back) = (back ≡ job) × (new ≡ old) × (¬ IfSaving old (λ _ _. Unit {0}))
RefusesSave job old new Mismatch = IfSaving old (λ frame mark. (frame.bytes ≢ job.copy) × (new ≡ Leaving frame (Unbacked (Some job.slot)) mark))
RefusesSave job old new Device = IfSaving old (λ frame mark. (frame.bytes ≡ job.copy) × (IsFalse job.passed) × (new ≡ Leaving frame (Unbacked (Some job.slot)) mark))

-- of a page that is not in memory, where `fresh` says what holds of one that is as it began, and `away` of one in its slot
abbrev pub IfAbsent : {S : Type 0} → Place S → Type 0 → (CopyValue S → Type 0) → Type 0
IfAbsent Fresh fresh away = fresh
IfAbsent (Resident frame slot) fresh away = ⊥
IfAbsent (Leaving frame slot mark) fresh away = ⊥
IfAbsent (Saving frame mark) fresh away = ⊥
IfAbsent (Away copy) fresh away = away copy
IfAbsent Purged fresh away = ⊥

-- of a resident page, with its frame and what it keeps
abbrev pub IfResident : {S : Type 0} → Place S → (FrameValue → Keeping S → Type 0) → Type 0
IfResident Fresh P = ⊥
IfResident (Resident frame slot) P = P frame slot
IfResident (Leaving frame slot mark) P = ⊥
IfResident (Saving frame mark) P = ⊥
IfResident (Away copy) P = ⊥
IfResident Purged P = ⊥

-- of a page in its slot
abbrev pub IfAway : {S : Type 0} → Place S → (CopyValue S → Type 0) → Type 0
IfAway Fresh P = ⊥
IfAway (Resident frame slot) P = ⊥
IfAway (Leaving frame slot mark) P = ⊥
IfAway (Saving frame mark) P = ⊥
IfAway (Away copy) P = P copy
IfAway Purged P = ⊥

-- of what a page keeps, where it is a slot that it was loaded from
abbrev pub IfSaved : {S : Type 0} → Keeping S → (CopyValue S → Type 0) → Type 0
IfSaved NoSlot P = ⊥
IfSaved (Saved copy) P = P copy
IfSaved (Unbacked slot) P = ⊥
IfSaved (Cleaning slot) P = ⊥
IfSaved CopyOut P = ⊥

-- a page that was brought into a frame: one that was as it began keeps no slot, one that was away the slot that it was loaded from
abbrev pub Filled : {S : Type 0} → FrameValue → PageValue S → PageValue S → Type 0
Filled frame old new =
    IfResident new.place (λ filled slot. (filled.number ≡ frame.number) × IfAbsent old.place ((filled.bytes ≡ old.origin.bytes) × (slot ≡ NoSlot)) (λ _. IfSaved slot (λ _. Unit {0})))

-- the slot in which a page lay was called once, and the page has it at hand still
abbrev pub CalledOnce : {S : Type 0} → (S → S → Type 0) → Place S → Place S → Type 0
CalledOnce {S} called old new = (copy : CopyValue S) → old ≡ Away copy → IfSome (kept (slot_of new)) (called copy.slot)

-- why a page was not brought in, with the frame that is handed back
abbrev pub RefusesFill : {S : Type 0} → Type 0 → (S → ℕ) → FrameValue → Place S → Place S → FrameValue → FillFault → Type 0
RefusesFill honest failures frame old new back fault.NotAbsent =
    (¬ IfAbsent old (Unit {0}) (λ _. Unit {0})) × (new ≡ old) × (back ≡ frame)
RefusesFill honest failures frame old new back fault.Device =
    (back.number ≡ frame.number) × IfAway old (λ copy. IfAway new (λ after. Rose (failures copy.slot) (failures after.slot)))
RefusesFill honest failures frame old new back fault.Damaged =
    (¬ honest) × ((¬ Matches old back.bytes) × ((back.number ≡ frame.number) × (IfAway old (λ _. IfAway new (λ _. Unit {0})) × (failures_at failures new ≡ failures_at failures old))))

-- why a byte of a page is not read
abbrev pub RefusesRead : {S : Type 0} → (S → ℕ) → Place S → Place S → ReadFault → Type 0
RefusesRead failures old new read_fault.Purged = (old ≡ Purged) × (new ≡ old)
RefusesRead failures old new read_fault.Device = IfAway old (λ copy. IfAway new (λ after. Rose (failures copy.slot) (failures after.slot)))
