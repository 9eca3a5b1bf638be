-- What each call on a process's pages does to its memory as a whole, by name. Code that builds on this memory uses these names.
use Rattle.std.specs.Prelude.{◌≡◌, ℕ, zero, suc, ◌^◌, ◌<◌, ◌≤◌, Bool, true, false, ◌||◌, is_some, map, List, [], ◌∷◌, ◌++◌, Option, Some, None, option_map, option_and_then, if◌then◌else◌, IfSome}
use Rattle.frame_pool.specs.FrameValue.{FrameValue}
use Rattle.page_memory.specs.Words.{page_number, page_offset}
use Rattle.page_store.specs.JobValue.{JobValue, SavedValue}
use Rattle.page_store.specs.Keeping.{kept, Keeping, NoSlot, Saved, Unbacked, Cleaning, CopyOut, is_copy_out}
use Rattle.page_store.specs.Moves.{given_back}
use Rattle.page_store.specs.PageValue.{PageValue, Place, Fresh, Resident, Leaving, Saving, Away, Purged, changed, slot_of}
use Rattle.page_store.specs.declared.answer.Collected.{Collected}
use Rattle.page_store.specs.declared.answer.SaveRefusal.{SaveRefusal}
use Rattle.page_store.specs.declared.refusal.LeaveRefusal.{LeaveRefusal}
use Rattle.sv32_table.specs.Entry.{blank, page_entry}
use Rattle.sv32_table.specs.EntryAt.{entry_at, ChangesEntry, SameTables, AddsTable, unaccessed_entry, dirty_of}
use Rattle.tlb_core.specs.Cache.{doomed}
use Rattle.paged_memory.specs.Calls.{ChangesBy, Leaves, RefusesLeave}
use Rattle.paged_memory.specs.cleaning.Copies.{LeavesCopies}
use Rattle.paged_memory.specs.moves.Filling.{BroughtIn, PageCalledOnce, RefusesPageIn, failures_of}
use Rattle.paged_memory.specs.moves.GivingBack.{GivesNothing, GivesOne, LiesBehind, SavesOne}
use Rattle.paged_memory.specs.moves.Leaving.{CollectsAt, ChangesSaved, Frees, RefusesSaved, IsOut, BringsBack}
use Rattle.paged_memory.specs.Paged.{PagedValue, page_at, memory_of}
use Rattle.paged_memory.specs.Peeking.{ShowsBytes, LeavesPage, RefusesPeek}
use Rattle.paged_memory.specs.Whole.{is_cached, is_out_in}
use Rattle.paged_memory.specs.declared.filling.PageInFault.{PageInFault}
use Rattle.paged_memory.specs.declared.peeking.PeekFault.{PeekFault}

-- what a call leaves of a memory

module _ {S : Type 0} where
  -- it with the pages of another
  abbrev pub with_pages : PagedValue S → PagedValue S → PagedValue S
  with_pages old new = record old { pages = new.pages }

  -- nothing changed but the pages; but what harts' caches hold, or how many have one
  abbrev pub OnlyPages : PagedValue S → PagedValue S → Type 0
  OnlyPages old new = new ≡ with_pages old new

  abbrev pub OnlyCaches : PagedValue S → PagedValue S → Type 0
  OnlyCaches old new = new ≡ record old { caches = new.caches }

  -- the caches and the tables are what they were
  abbrev pub SameCaches : PagedValue S → PagedValue S → Type 0
  SameCaches old new = new.caches ≡ old.caches

  abbrev pub SameEntries : PagedValue S → PagedValue S → Type 0
  SameEntries old new = new.tables ≡ old.tables

  -- no table was added or taken away
  abbrev pub SameTablesIn : PagedValue S → PagedValue S → Type 0
  SameTablesIn old new = SameTables old.tables new.tables

-- a page's use is read, and it begins to leave its frame

module _ {S : Type 0} where
  -- a resident page's accessed bit is cleared, and its translations are to be dropped
  pub record ForgetsUse (vpn : ℕ) (old new : PagedValue S) : Type 0 where
    pub process : new.process ≡ old.process
    pub pages : new.pages ≡ old.pages
    pub entry : ChangesEntry old.tables new.tables vpn (unaccessed_entry (entry_at old.tables vpn))
    pub tabled : SameTables old.tables new.tables
    pub caches : new.caches ≡ map (doomed vpn) old.caches
    pub reserved : new.reserved ≡ old.reserved

  -- a resident page begins to leave its frame: it is unmapped, and its translations are to be dropped
  pub record BeginsToLeave (vpn : ℕ) (old new : PagedValue S) : Type 0 where
    pub process : new.process ≡ old.process
    pub page : ChangesBy (Leaves (dirty_of (entry_at old.tables vpn))) old.pages new.pages vpn
    pub entry : ChangesEntry old.tables new.tables vpn blank
    pub tabled : SameTables old.tables new.tables
    pub caches : new.caches ≡ map (doomed vpn) old.caches
    pub reserved : new.reserved ≡ old.reserved
    pub copies : LeavesCopies old new

  -- why it does not
  abbrev pub DoesNotLeave : ℕ → LeaveRefusal → PagedValue S → Type 0
  DoesNotLeave vpn refusal memory = RefusesLeave (page_at memory.pages vpn) refusal

-- a page that is leaving is looked at

module _ {S : Type 0} where
  -- whether a page that is leaving counts as changed: by the mark that it took along, or since its slot holds nothing for it yet
  abbrev pub counts_changed : PageValue S → Bool
  counts_changed page = changed false page.place

  -- the slot that the page of a number has at hand
  abbrev pub slot_in : PagedValue S → ℕ → Option S
  slot_in memory vpn = option_and_then (λ page. kept (slot_of page.place)) (page_at memory.pages vpn)

  -- a page that is leaving, with its frame and its slot
  pub record IsLeavingPage (vpn : ℕ) (memory : PagedValue S) : Type 0 where
    pub small : vpn < 2 ^ 20
    pub page : PageValue S
    pub frame : FrameValue
    pub slot : Keeping S
    pub mark : Bool
    pub found : page_at memory.pages vpn ≡ Some page
    pub leaving : page.place ≡ Leaving frame slot mark

  -- it can't let its frame go yet: a cache holds a translation of it still, or a copy of it is out
  pub record IsHeldStill (vpn : ℕ) (memory : PagedValue S) : Type 0 where
    pub page : IsLeavingPage vpn memory
    pub held : (is_cached memory vpn || is_copy_out page.slot) ≡ true

  -- neither is so; it counts as changed and has no slot
  pub record WantsSlot (vpn : ℕ) (memory : PagedValue S) : Type 0 where
    pub page : IsLeavingPage vpn memory
    pub held : is_cached memory vpn ≡ false
    pub alone : is_copy_out page.slot ≡ false
    pub changed : counts_changed page.page ≡ true
    pub slotless : kept page.slot ≡ None

  -- where an unchanged page goes that lets its frame go: to its slot, or to what it began with; one that nothing backs counts as changed, and
  -- goes nowhere
  abbrev pub emptied_to : Option S → Place S
  emptied_to None = Fresh
  emptied_to (Some slot) = Away (record { slot = slot; digest = [] })

  abbrev pub dropped_to : Keeping S → Place S
  dropped_to NoSlot = Fresh
  dropped_to (Saved copy) = Away copy
  dropped_to (Unbacked slot) = emptied_to slot
  dropped_to (Cleaning slot) = emptied_to slot
  dropped_to CopyOut = Fresh

  pub record LetsGo (frame : FrameValue) (page page' : PageValue S) : Type 0 where
    pub slot : Keeping S
    pub mark : Bool
    pub was : page.place ≡ Leaving frame slot mark
    pub unchanged : counts_changed page ≡ false
    pub is : page' ≡ record page { place = dropped_to slot }

  -- an unchanged page that no cache holds goes to its backing, and lets this frame go
  pub record GoesToBacking (vpn : ℕ) (frame : FrameValue) (old new : PagedValue S) : Type 0 where
    pub small : vpn < 2 ^ 20
    pub held : is_cached old vpn ≡ false
    pub page : ChangesBy (LetsGo frame) old.pages new.pages vpn
    pub stays : new ≡ record old { pages = new.pages }

  pub record IsCopied (job : JobValue S) (page page' : PageValue S) : Type 0 where
    pub frame : FrameValue
    pub slot : Keeping S
    pub mark : Bool
    pub was : page.place ≡ Leaving frame slot mark
    pub changed : counts_changed page ≡ true
    pub alone : is_copy_out slot ≡ false
    pub is : page' ≡ record page { place = Saving frame mark }
    pub copy : job.copy ≡ frame.bytes

  -- a changed page that no cache holds is copied into a job, and is being saved
  pub record GoesToBeSaved (vpn : ℕ) (job : JobValue S) (old new : PagedValue S) : Type 0 where
    pub small : vpn < 2 ^ 20
    pub held : is_cached old vpn ≡ false
    pub page : ChangesBy (IsCopied job) old.pages new.pages vpn
    pub stays : new ≡ record old { pages = new.pages }
    pub process : job.process ≡ old.process
    pub vpn_is : job.vpn ≡ vpn

  -- what a look at a page answers, which spare slot it leaves, and what it changes
  abbrev pub LooksAt : {L : Type 0} → ℕ → Option S → Option S → Collected L S → PagedValue S → PagedValue S → Type 0
  LooksAt vpn spare spare' answer old new = CollectsAt old.process vpn (is_cached old vpn) spare spare' answer old.pages new.pages (page_at old.pages vpn)

-- a save comes back, and a page that is leaving is mapped again

module _ {S : Type 0} where
  -- the page of a save goes to its slot, and lets this frame go, which holds what was saved
  pub record SavedAway (job : SavedValue S) (frame : FrameValue) (old new : PagedValue S) : Type 0 where
    pub page : ChangesSaved old.process job (Frees job frame) old.pages new.pages
    pub stays : new ≡ record old { pages = new.pages }

  -- the page of a save that failed leaves again in its frame, with the dirty bit that it had and the slot of the save, which does not back it; the frame
  -- shows the failure
  pub record IsUnsaved (shows : FrameValue → Type 0) (job : SavedValue S) (page page' : PageValue S) : Type 0 where
    pub frame : FrameValue
    pub mark : Bool
    pub was : page.place ≡ Saving frame mark
    pub is : page' ≡ record page { place = Leaving frame (Unbacked (Some job.slot)) mark }
    pub failed : shows frame

  pub record LeavesAgain (shows : FrameValue → Type 0) (job : SavedValue S) (old new : PagedValue S) : Type 0 where
    pub page : ChangesSaved old.process job (IsUnsaved shows job) old.pages new.pages
    pub stays : new ≡ record old { pages = new.pages }

  -- why a save frees no frame, and what its page is then
  abbrev pub IsNotSaved : SavedValue S → SaveRefusal S → PagedValue S → PagedValue S → Type 0
  IsNotSaved job refusal old new = RefusesSaved old.process job old.pages new.pages refusal

  -- a save is out of a page of this memory
  abbrev pub IsOutOf : SavedValue S → PagedValue S → Type 0
  IsOutOf job memory = IsOut memory.process job memory.pages

  -- bytes of some page are out with a job, or of none
  abbrev pub SavesSome : PagedValue S → Type 0
  SavesSome memory = SavesOne memory.pages

  abbrev pub SavesNone : PagedValue S → Type 0
  SavesNone memory = (q : ℕ) → q < 2 ^ 20 → is_out_in memory q ≡ false

  -- a page that is leaving is mapped again, in its frame
  pub record MapsAgain (vpn : ℕ) (old new : PagedValue S) : Type 0 where
    pub small : vpn < 2 ^ 20
    pub page : BringsBack old.pages new.pages old.tables new.tables vpn
    pub tabled : SameTables old.tables new.tables
    pub process : new.process ≡ old.process
    pub caches : new.caches ≡ old.caches
    pub reserved : new.reserved ≡ old.reserved

-- a page is brought in, or looked at

module _ {S : Type 0} (held : S → List ℕ) (honest : Type 0) where
  -- a page is in this frame, mapped with its rights, as used and not changed
  pub record ComesIn (frame : FrameValue) (vpn : ℕ) (old new : PagedValue S) : Type 0 where
    pub small : vpn < 2 ^ 20
    pub page : ChangesBy (BroughtIn held honest frame) old.pages new.pages vpn
    pub entry : IfSome (page_at old.pages vpn) (λ page. ChangesEntry old.tables new.tables vpn (page_entry frame.number page.origin.rights true false))
    pub tables : AddsTable old.tables new.tables vpn
    pub process : new.process ≡ old.process
    pub caches : new.caches ≡ old.caches
    pub reserved : new.reserved ≡ old.reserved
    pub memory : honest → memory_of held new ≡ memory_of held old

  -- why it does not come in, with the frame that is handed back
  abbrev pub RefusesIn : (S → ℕ) → FrameValue → ℕ → FrameValue → PageInFault → PagedValue S → PagedValue S → Type 0
  RefusesIn failures frame vpn back fault old new = RefusesPageIn held honest failures frame old.pages new.pages old.tables vpn back fault

  -- so many bytes that the page of an address shows from it on; what a look at them leaves; and why they are not shown
  abbrev pub ShowsIn : PagedValue S → ℕ → ℕ → List (Option ℕ) → Type 0
  ShowsIn memory address count bytes = ShowsBytes held honest (page_at memory.pages (page_number address)) (page_offset address) count bytes

  abbrev pub LeavesLookedAt : ℕ → PagedValue S → PagedValue S → Type 0
  LeavesLookedAt address old new = LeavesPage held honest old.pages new.pages (page_number address) (page_at old.pages (page_number address))

  abbrev pub DoesNotShow : (S → ℕ) → ℕ → PagedValue S → PagedValue S → PeekFault → Type 0
  DoesNotShow failures address old new fault = RefusesPeek held honest failures old.pages new.pages (page_number address) fault

-- the slot of the page of a number reports as many failures as before
abbrev pub SameFailures : {S : Type 0} → (S → ℕ) → ℕ → PagedValue S → PagedValue S → Type 0
SameFailures failures vpn old new = failures_of failures (page_at new.pages vpn) ≡ failures_of failures (page_at old.pages vpn)

-- the slot in which the page of a number lay was called once
abbrev pub CallsOnce : {S : Type 0} → (S → S → Type 0) → ℕ → PagedValue S → PagedValue S → Type 0
CallsOnce called vpn old new = PageCalledOnce called (page_at old.pages vpn) (page_at new.pages vpn)

-- pages give back what they have

abbrev pub with_given : {A : Type 0} → List A → Option A → List A
with_given given None = given
with_given given (Some a) = given ++ a ∷ []

module _ {S : Type 0} where
  -- the page of a number has no frame and no slot to give back, or is being saved; the same of each below this number
  abbrev pub GivesNothingIn : PagedValue S → ℕ → Type 0
  GivesNothingIn memory number = GivesNothing (page_at memory.pages number)

  abbrev pub HasNothingBelow : ℕ → PagedValue S → Type 0
  HasNothingBelow bound memory = (q : ℕ) → q < bound → GivesNothingIn memory q

  -- a number is one above that of a page that has something, and that page is not below the one where the search began
  abbrev pub LiesBehindIn : PagedValue S → ℕ → ℕ → Type 0
  LiesBehindIn memory from next = LiesBehind memory.pages from next

  -- the first page that has something gives it back, and is unmapped, whatever else changes
  abbrev pub GivesIn : Option FrameValue × Option S → PagedValue S → PagedValue S → Type 0
  GivesIn given old new = GivesOne given old.pages new.pages old.tables new.tables

  -- whether a page has a frame or a slot to give back
  abbrev pub has_to_give : Option (PageValue S) → Bool
  has_to_give None = false
  has_to_give (Some page) = is_some (given_back page.place)

  -- a page that has is given up for good, and any other stays where it is
  abbrev pub unless_out : Keeping S → Place S → Place S
  unless_out NoSlot place = Purged
  unless_out (Saved copy) place = Purged
  unless_out (Unbacked slot) place = Purged
  unless_out (Cleaning slot) place = Purged
  unless_out CopyOut place = place

  abbrev pub place_given : Place S → Place S
  place_given Fresh = Fresh
  place_given (Resident frame slot) = unless_out slot (Resident frame slot)
  place_given (Leaving frame slot mark) = unless_out slot (Leaving frame slot mark)
  place_given (Saving frame mark) = Saving frame mark
  place_given (Away slot) = Purged
  place_given Purged = Purged

  abbrev pub page_given : PageValue S → PageValue S
  page_given page = record page { place = place_given page.place }

  -- whether the page of a number has something to give back
  abbrev pub has_to_give_in : PagedValue S → ℕ → Bool
  has_to_give_in memory number = has_to_give (page_at memory.pages number)

  -- the page of a number is as it was; it has given what it had
  abbrev pub SamePage : PagedValue S → PagedValue S → ℕ → Type 0
  SamePage old new number = page_at new.pages number ≡ page_at old.pages number

  abbrev pub PageGiven : PagedValue S → PagedValue S → ℕ → Type 0
  PageGiven old new number = page_at new.pages number ≡ option_map page_given (page_at old.pages number)

  -- the frame and the slot that a page gives back, if it has one to give
  abbrev pub given_frame : Option (PageValue S) → Option FrameValue
  given_frame None = None
  given_frame (Some page) = option_and_then (λ given. given.0) (given_back page.place)

  abbrev pub given_slot : Option (PageValue S) → Option S
  given_slot None = None
  given_slot (Some page) = option_and_then (λ given. given.1) (given_back page.place)

  -- the frames, or the slots, that the pages below a number give back, by rising number
  unfoldable pub given_below : {A : Type 0} → (Option (PageValue S) → Option A) → PagedValue S → ℕ → List A
  given_below of memory zero = []
  given_below of memory (suc number) = with_given (given_below of memory number) (of (page_at memory.pages number))

  -- pages gave these frames and slots back so far, all of those that the pages below a number had; each page from there on is as it was
  pub record GivesBelow (frames : List FrameValue) (slots : List S) (old new : PagedValue S) : Type 0 where
    pub below : ℕ
    pub within : below ≤ 2 ^ 20
    pub framed : frames ≡ given_below given_frame old below
    pub named : slots ≡ given_below given_slot old below
    pub nothing : HasNothingBelow below new
    pub beyond : (number : ℕ) → below ≤ number → SamePage old new number

  -- no cache holds a translation
  abbrev pub EmptiesCaches : PagedValue S → PagedValue S → Type 0
  EmptiesCaches old new = new.caches ≡ map (λ _. []) old.caches

  -- a page gave back what it had, and is unmapped
  pub record IsGiven (old new : PagedValue S) (number : ℕ) : Type 0 where
    pub had : has_to_give_in old number ≡ true
    pub page : PageGiven old new number
    pub entry : entry_at new.tables number ≡ blank

  -- a page is as it was
  pub record IsLeft (old new : PagedValue S) (number : ℕ) : Type 0 where
    pub page : SamePage old new number
    pub entry : entry_at new.tables number ≡ entry_at old.tables number

  -- every page that had something has given it back, and no cache holds a translation; which pages have a table stays, and what is reserved
  pub record GivesAll (old new : PagedValue S) : Type 0 where
    pub process : new.process ≡ old.process
    pub pages : (number : ℕ) → number < 2 ^ 20 → PageGiven old new number
    pub entries : (number : ℕ) → number < 2 ^ 20 → entry_at new.tables number ≡ (if has_to_give_in old number then blank else entry_at old.tables number)
    pub caches : EmptiesCaches old new
    pub tabled : SameTablesIn old new
    pub reserved : new.reserved ≡ old.reserved
