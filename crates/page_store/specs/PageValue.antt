-- One page of a process: its state, what it shows, and its backing.
use Rattle.std.specs.Prelude.{◌≡◌, ℕ, Bool, true, false, ◌||◌, List, [], Option, Some, None, option_map, IsFalse}
use Rattle.sha2.specs.Sha256.{sha256}
use Rattle.page_memory.specs.Pages.{Page}
use Rattle.page_memory.specs.Rights.{read_write}
use Rattle.frame_pool.specs.FrameValue.{FrameValue, zero_bytes}
use Rattle.page_store.specs.Keeping.{Keeping, NoSlot, Saved, Unbacked, Cleaning, CopyOut, kept, copy_in, is_unbacked, is_copy_out}
use Rattle.page_store.specs.CopyValue.{CopyValue}
use Rattle.page_store.specs.declared.state.PageState.{PageState}
use Rattle.page_store.specs.declared.state.PageState.TheVariants as stage

-- where a page is, with its frame, what it keeps and, while it leaves and while it is being saved, the dirty bit that its entry had when it began
-- to leave; while it is being saved its slot is with its job
pub data Place (S : Type 0) : Type 0 where
  Fresh : Place S
  Resident : FrameValue → Keeping S → Place S
  Leaving : FrameValue → Keeping S → Bool → Place S
  Saving : FrameValue → Bool → Place S
  Away : CopyValue S → Place S
  Purged : Place S

-- a page: what it began with (its rights and bytes), and where it is
pub record PageValue (S : Type 0) : Type 0 where
  pub origin : Page
  pub place : Place S

-- a page of zeros as a process's memory gets it: it may be read and written, and has no frame yet
abbrev pub fresh_zero_page : {S : Type 0} → PageValue S
fresh_zero_page = record { origin = record { rights = read_write; bytes = zero_bytes }; place = Fresh }

abbrev pub page_state_of : {S : Type 0} → Place S → PageState
page_state_of Fresh = stage.Fresh
page_state_of (Resident frame slot) = stage.Resident
page_state_of (Leaving frame slot mark) = stage.Leaving
page_state_of (Saving frame mark) = stage.Saving
page_state_of (Away copy) = stage.Away
page_state_of Purged = stage.Purged

-- the frame that a page holds
abbrev pub frame_of : {S : Type 0} → Place S → Option FrameValue
frame_of Fresh = None
frame_of (Resident frame slot) = Some frame
frame_of (Leaving frame slot mark) = Some frame
frame_of (Saving frame mark) = Some frame
frame_of (Away copy) = None
frame_of Purged = None

-- the frame whose bytes may be written: of a page that is mapped, or that caches may hold still
abbrev pub writable : {S : Type 0} → Place S → Option FrameValue
writable Fresh = None
writable (Resident frame slot) = Some frame
writable (Leaving frame slot mark) = Some frame
writable (Saving frame mark) = None
writable (Away copy) = None
writable Purged = None

-- the slot that a page has at hand
abbrev pub slot_of : {S : Type 0} → Place S → Keeping S
slot_of Fresh = NoSlot
slot_of (Resident frame slot) = slot
slot_of (Leaving frame slot mark) = slot
slot_of (Saving frame mark) = NoSlot
slot_of (Away copy) = Saved copy
slot_of Purged = NoSlot

-- how many failures of its device are reported by the slot that a page has at hand
abbrev pub failures_at : {S : Type 0} → (S → ℕ) → Place S → Option ℕ
failures_at failures place = option_map failures (kept (slot_of place))

-- the digest that a page keeps of what was saved in its slot
abbrev pub kept_digest : {S : Type 0} → Place S → Option (List ℕ)
kept_digest place = option_map (λ copy. copy.digest) (copy_in (slot_of place))

-- bytes have the digest that a page in its slot keeps
abbrev pub Matches : {S : Type 0} → Place S → List ℕ → Type 0
Matches Fresh bytes = Unit {0}
Matches (Resident frame slot) bytes = Unit {0}
Matches (Leaving frame slot mark) bytes = Unit {0}
Matches (Saving frame mark) bytes = Unit {0}
Matches (Away copy) bytes = sha256 bytes ≡ copy.digest
Matches Purged bytes = Unit {0}

-- the bytes that a page shows, where its slot holds those of `held`
abbrev pub shown : {S : Type 0} → (S → List ℕ) → List ℕ → Place S → List ℕ
shown held origin Fresh = origin
shown held origin (Resident frame slot) = frame.bytes
shown held origin (Leaving frame slot mark) = frame.bytes
shown held origin (Saving frame mark) = frame.bytes
shown held origin (Away copy) = held copy.slot
shown held origin Purged = []

abbrev pub content : {S : Type 0} → (S → List ℕ) → PageValue S → List ℕ
content held page = shown held page.origin.bytes page.place

-- what a slot backs a page with: the bytes in it if they were saved, else those that the page began with
abbrev pub backed : {S : Type 0} → (S → List ℕ) → List ℕ → Keeping S → List ℕ
backed held origin NoSlot = origin
backed held origin (Saved copy) = held copy.slot
backed held origin (Unbacked slot) = origin
backed held origin (Cleaning slot) = origin
backed held origin CopyOut = origin

-- the backing of a page: the bytes that it would show if it lost its frame now
abbrev pub backing_at : {S : Type 0} → (S → List ℕ) → List ℕ → Place S → List ℕ
backing_at held origin Fresh = origin
backing_at held origin (Resident frame slot) = backed held origin slot
backing_at held origin (Leaving frame slot mark) = backed held origin slot
backing_at held origin (Saving frame mark) = origin
backing_at held origin (Away copy) = held copy.slot
backing_at held origin Purged = []

-- whether bytes of a page are out with a job: while it is being saved, and while a copy of it is out
abbrev pub is_out : {S : Type 0} → Place S → Bool
is_out Fresh = false
is_out (Resident frame slot) = is_copy_out slot
is_out (Leaving frame slot mark) = is_copy_out slot
is_out (Saving frame mark) = true
is_out (Away copy) = false
is_out Purged = false

-- whether a page counts as changed: by the dirty bit of its table entry while it is resident, by the mark that it took
-- along while it leaves, and always while it is saved or nothing backs it
abbrev pub changed : {S : Type 0} → Bool → Place S → Bool
changed dirty Fresh = false
changed dirty (Resident frame slot) = dirty || is_unbacked slot
changed dirty (Leaving frame slot mark) = mark || is_unbacked slot
changed dirty (Saving frame mark) = true
changed dirty (Away copy) = false
changed dirty Purged = false

-- that the bytes of a page are known: those in a slot are if slots are honest
abbrev pub Known : {S : Type 0} → Type 0 → Place S → Type 0
Known honest Fresh = Unit {0}
Known honest (Resident frame slot) = Unit {0}
Known honest (Leaving frame slot mark) = Unit {0}
Known honest (Saving frame mark) = Unit {0}
Known honest (Away copy) = honest
Known honest Purged = Unit {0}

-- a page that does not count as changed equals its backing
abbrev pub BackedAt : {S : Type 0} → (S → List ℕ) → List ℕ → Bool → Place S → Type 0
BackedAt held origin dirty place = IsFalse (changed dirty place) → shown held origin place ≡ backing_at held origin place

abbrev pub Backed : {S : Type 0} → (S → List ℕ) → Bool → PageValue S → Type 0
Backed held dirty page = BackedAt held page.origin.bytes dirty page.place
