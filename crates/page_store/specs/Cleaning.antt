-- What becomes of a page that is written to its slot while it stays mapped: a cleaning begins, a copy goes out, and it comes back.
use Rattle.std.specs.Prelude.{◌≡◌, ℕ, Bool, true, false, Option, Some, None, Result, Ok, Err, IsTrue, IsFalse}
use Rattle.frame_pool.specs.FrameValue.{FrameValue}
use Rattle.page_store.specs.JobValue.{SavedValue}
use Rattle.page_store.specs.Keeping.{Keeping, NoSlot, Saved, Unbacked, Cleaning, CopyOut}
use Rattle.page_store.specs.PageValue.{Place, Fresh, Resident, Leaving, Saving, Away, Purged}
use Rattle.page_store.specs.Moves.{job_of, copy_of}
use Rattle.page_store.specs.declared.refusal.CleanRefusal.{CleanRefusal}
use Rattle.page_store.specs.declared.refusal.CleanRefusal.TheVariants.{NotResident, NotChanged, AlreadyCleaning}
use Rattle.page_store.specs.declared.answer.CleanCopy.{CleanCopy}
use Rattle.page_store.specs.declared.answer.CleanCopy.TheVariants as answer
use Rattle.page_store.specs.declared.answer.Cleaned.{Cleaned}
use Rattle.page_store.specs.declared.answer.Cleaned.TheVariants as end

-- what a resident page keeps once its cleaning began, where its table entry had D or not: nothing backs it from now on. The first says
-- whether its process has ended, and with it each cleaning that has no copy.
abbrev pub begun_keeping : {S : Type 0} → Bool → Bool → Keeping S → Result (Keeping S) CleanRefusal
begun_keeping ended false NoSlot = Err NotChanged
begun_keeping ended true NoSlot = Ok (Cleaning None)
begun_keeping ended false (Saved copy) = Err NotChanged
begun_keeping ended true (Saved copy) = Ok (Cleaning (Some copy.slot))
begun_keeping ended dirty (Unbacked slot) = Ok (Cleaning slot)
begun_keeping true dirty (Cleaning slot) = Ok (Cleaning slot)
begun_keeping false dirty (Cleaning slot) = Err AlreadyCleaning
begun_keeping ended dirty CopyOut = Err AlreadyCleaning

abbrev pub resident_with : {S : Type 0} → FrameValue → Result (Keeping S) CleanRefusal → Result (Place S) CleanRefusal
resident_with frame (Ok slot) = Ok (Resident frame slot)
resident_with frame (Err refusal) = Err refusal

-- a page whose cleaning begins, or why it does not
abbrev pub begun : {S : Type 0} → Bool → Bool → Place S → Result (Place S) CleanRefusal
begun ended dirty Fresh = Err NotResident
begun ended dirty (Resident frame slot) = resident_with frame (begun_keeping ended dirty slot)
begun ended dirty (Leaving frame slot mark) = Err NotResident
begun ended dirty (Saving frame mark) = Err NotResident
begun ended dirty (Away copy) = Err NotResident
begun ended dirty Purged = Err NotResident

-- whether a page is being cleaned, and no copy of it is out
abbrev pub is_cleaning : {S : Type 0} → Keeping S → Bool
is_cleaning NoSlot = false
is_cleaning (Saved copy) = false
is_cleaning (Unbacked slot) = false
is_cleaning (Cleaning slot) = true
is_cleaning CopyOut = false

abbrev pub is_being_cleaned : {S : Type 0} → Place S → Bool
is_being_cleaned Fresh = false
is_being_cleaned (Resident frame slot) = is_cleaning slot
is_being_cleaned (Leaving frame slot mark) = false
is_being_cleaned (Saving frame mark) = false
is_being_cleaned (Away copy) = false
is_being_cleaned Purged = false

-- a page, the spare slot that is left, and the answer
abbrev pub CopiedPage : Type 0 → Type 0
CopiedPage S = Place S × (Option S × CleanCopy S)

module _ {S : Type 0} (process vpn : ℕ) where
  -- a page with no slot of its own is copied for the spare one; with none its cleaning ends
  abbrev pub copy_for_spare : FrameValue → Option S → CopiedPage S
  copy_for_spare frame None = (Resident frame (Unbacked None), (None, answer.NoSlot))
  copy_for_spare frame (Some slot) = (Resident frame CopyOut, (None, answer.Copied (job_of process vpn frame slot)))

  abbrev pub copy_unmarked : FrameValue → Option S → Option S → CopiedPage S
  copy_unmarked frame None spare = copy_for_spare frame spare
  copy_unmarked frame (Some slot) spare = (Resident frame CopyOut, (spare, answer.Copied (job_of process vpn frame slot)))

  -- a page that is being cleaned, by the dirty bit of its table entry, and whether a cache has the dirty mark for it: a store since the
  -- cleaning began ends it, and a mark lets it wait
  abbrev pub copy_cleaning : FrameValue → Option S → Bool → Bool → Option S → CopiedPage S
  copy_cleaning frame slot true marked spare = (Resident frame (Unbacked slot), (spare, answer.Stored))
  copy_cleaning frame slot false true spare = (Resident frame (Cleaning slot), (spare, answer.NotYet))
  copy_cleaning frame slot false false spare = copy_unmarked frame slot spare

  abbrev pub copy_resident : FrameValue → Keeping S → Bool → Bool → Option S → CopiedPage S
  copy_resident frame NoSlot dirty marked spare = (Resident frame NoSlot, (spare, answer.NotCleaning))
  copy_resident frame (Saved copy) dirty marked spare = (Resident frame (Saved copy), (spare, answer.NotCleaning))
  copy_resident frame (Unbacked slot) dirty marked spare = (Resident frame (Unbacked slot), (spare, answer.NotCleaning))
  copy_resident frame (Cleaning slot) dirty marked spare = copy_cleaning frame slot dirty marked spare
  copy_resident frame CopyOut dirty marked spare = (Resident frame CopyOut, (spare, answer.NotCleaning))

  -- a page that is to be copied
  abbrev pub copied_clean : Bool → Bool → Place S → Option S → CopiedPage S
  copied_clean dirty marked Fresh spare = (Fresh, (spare, answer.NotCleaning))
  copied_clean dirty marked (Resident frame slot) spare = copy_resident frame slot dirty marked spare
  copied_clean dirty marked (Leaving frame slot mark) spare = (Leaving frame slot mark, (spare, answer.NotCleaning))
  copied_clean dirty marked (Saving frame mark) spare = (Saving frame mark, (spare, answer.NotCleaning))
  copied_clean dirty marked (Away copy) spare = (Away copy, (spare, answer.NotCleaning))
  copied_clean dirty marked Purged spare = (Purged, (spare, answer.NotCleaning))

-- of what a page keeps, where it is that a copy is out
abbrev pub IfOut : {S : Type 0} → Keeping S → Type 0 → Type 0
IfOut NoSlot P = ⊥
IfOut (Saved copy) P = ⊥
IfOut (Unbacked slot) P = ⊥
IfOut (Cleaning slot) P = ⊥
IfOut CopyOut P = P

-- of a page of which a copy is out, with its frame and the bit that reports a store since: that of its table entry, where it has one, else
-- the one that it took along
abbrev pub IfCopyOut : {S : Type 0} → Bool → Place S → (FrameValue → Bool → Type 0) → Type 0
IfCopyOut dirty Fresh P = ⊥
IfCopyOut dirty (Resident frame slot) P = IfOut slot (P frame dirty)
IfCopyOut dirty (Leaving frame slot mark) P = IfOut slot (P frame mark)
IfCopyOut dirty (Saving frame mark) P = ⊥
IfCopyOut dirty (Away copy) P = ⊥
IfCopyOut dirty Purged P = ⊥

-- a page with a frame that keeps this now
abbrev pub keeping : {S : Type 0} → Keeping S → Place S → Place S
keeping now Fresh = Fresh
keeping now (Resident frame slot) = Resident frame now
keeping now (Leaving frame slot mark) = Leaving frame now mark
keeping now (Saving frame mark) = Saving frame mark
keeping now (Away copy) = Away copy
keeping now Purged = Purged

-- the result when a copy comes back, by the bit that reports a store since, and what the page keeps then
abbrev pub EndsAs : {S : Type 0} → SavedValue S → FrameValue → Bool → Keeping S → Cleaned S → Type 0
EndsAs job frame stored now (end.WrongPage back) = ⊥
EndsAs job frame stored now end.Stored = IsTrue stored × (now ≡ Unbacked (Some job.slot))
EndsAs job frame stored now end.Device = IsFalse stored × (frame.bytes ≡ job.copy) × (IsFalse job.passed) × (now ≡ Unbacked (Some job.slot))
EndsAs job frame stored now end.Clean = IsFalse stored × (frame.bytes ≡ job.copy) × (IsTrue job.passed) × (now ≡ Saved (copy_of job))

-- and what the page is then. The copy is another page's if this page has no copy out, or if copy and frame differ and no store is reported
abbrev pub EndsCleaning : {S : Type 0} → SavedValue S → Bool → Place S → Place S → Cleaned S → Type 0
EndsCleaning job dirty old new (end.WrongPage back) =
    (back ≡ job) × (new ≡ old) × (¬ IfCopyOut dirty old (λ frame stored. IsFalse stored → frame.bytes ≡ job.copy))
EndsCleaning job dirty old new end.Stored =
    IfCopyOut dirty old (λ frame stored. IsTrue stored) × (new ≡ keeping (Unbacked (Some job.slot)) old)
EndsCleaning job dirty old new end.Device =
    IfCopyOut dirty old (λ frame stored. IsFalse stored × (frame.bytes ≡ job.copy)) × (IsFalse job.passed) × (new ≡ keeping (Unbacked (Some job.slot)) old)
EndsCleaning job dirty old new end.Clean =
    IfCopyOut dirty old (λ frame stored. IsFalse stored × (frame.bytes ≡ job.copy)) × (IsTrue job.passed) × (new ≡ keeping (Saved (copy_of job)) old)
