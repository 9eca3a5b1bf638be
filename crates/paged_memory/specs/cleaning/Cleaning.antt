-- A resident page is cleaned while it is used: its cleaning begins, a copy of it goes out, and the copy comes back.
use Rattle.std.specs.Prelude.{◌≡◌, ℕ, ◌^◌, ◌<◌, ◌&&◌, Bool, true, false, map, List, Option, Some, None, Result, Ok, Err}
use Rattle.page_store.specs.Cleaning.{begun, is_being_cleaned, copied_clean, EndsCleaning}
use Rattle.page_store.specs.JobValue.{SavedValue}
use Rattle.page_store.specs.PageValue.{PageValue, changed}
use Rattle.page_store.specs.declared.answer.CleanCopy.{CleanCopy}
use Rattle.page_store.specs.declared.answer.CleanCopy.TheVariants.{NotCleaning}
use Rattle.page_store.specs.declared.answer.CleanCopy.TheVariants as copied
use Rattle.page_store.specs.declared.answer.Cleaned.{Cleaned}
use Rattle.page_store.specs.declared.answer.Cleaned.TheVariants.{WrongPage, Stored, Device, Clean}
use Rattle.page_store.specs.declared.refusal.CleanRefusal.{CleanRefusal}
use Rattle.page_store.specs.declared.refusal.CleanRefusal.TheVariants.{NotResident}
use Rattle.sv32_table.specs.EntryAt.{entry_at, ChangesEntry, SameTables, dirty_of, undirtied_entry}
use Rattle.tlb_core.specs.Cache.{doomed}
use Rattle.paged_memory.specs.Calls.{ChangesBy}
use Rattle.paged_memory.specs.cleaning.Copies.{StandsAt, LeavesCopies, CopyGoesOut, CopyComesBack}
use Rattle.paged_memory.specs.Counting.{page_passes, is_resident_place}
use Rattle.paged_memory.specs.Paged.{PagedValue, page_at}
use Rattle.paged_memory.specs.Soundness.{is_marked}

-- a cleaning begins

module _ {S : Type 0} where
  -- of a page, where its process has ended or not, and its entry has D or not: nothing else of it changes
  pub record StartsClean (ended dirty : Bool) (page page' : PageValue S) : Type 0 where
    pub origin : page'.origin ≡ page.origin
    pub place : begun ended dirty page.place ≡ Ok page'.place

  -- why it does not
  abbrev pub RefusesClean : Bool → Bool → Option (PageValue S) → CleanRefusal → Type 0
  RefusesClean ended dirty (Some page) refusal = begun ended dirty page.place ≡ Err refusal
  RefusesClean ended dirty None refusal = refusal ≡ NotResident

  -- the dirty bit of a page's entry is cleared, and its translations are to be dropped; from now on nothing backs the page
  pub record BeginsCleaning (ended : Bool) (vpn : ℕ) (old new : PagedValue S) : Type 0 where
    pub process : new.process ≡ old.process
    pub page : ChangesBy (StartsClean ended (dirty_of (entry_at old.tables vpn))) old.pages new.pages vpn
    pub entry : ChangesEntry old.tables new.tables vpn (undirtied_entry (entry_at old.tables vpn))
    pub tabled : SameTables old.tables new.tables
    pub caches : new.caches ≡ map (doomed vpn) old.caches
    pub reserved : new.reserved ≡ old.reserved

  abbrev pub DoesNotClean : Bool → ℕ → CleanRefusal → PagedValue S → Type 0
  DoesNotClean ended vpn refusal memory = RefusesClean ended (dirty_of (entry_at memory.tables vpn)) (page_at memory.pages vpn) refusal

-- why it does not, if it does not

abbrev pub refused_of : {A E : Type 0} → Result A E → Option E
refused_of (Ok done) = None
refused_of (Err why) = Some why

module _ {S : Type 0} where
  abbrev pub page_refusal : Bool → Bool → Option (PageValue S) → Option CleanRefusal
  page_refusal ended dirty (Some page) = refused_of (begun ended dirty page.place)
  page_refusal ended dirty None = Some NotResident

  abbrev pub clean_refusal_in : Bool → PagedValue S → ℕ → Option CleanRefusal
  clean_refusal_in ended memory vpn = page_refusal ended (dirty_of (entry_at memory.tables vpn)) (page_at memory.pages vpn)

  -- whether the page of a number is being cleaned, and no copy of it is out
  abbrev pub is_cleaning_in : PagedValue S → ℕ → Bool
  is_cleaning_in memory vpn = page_passes (λ page. is_being_cleaned page.place) (page_at memory.pages vpn)

-- a copy goes out

-- whether a page is another thing after this answer: its cleaning ended, or its copy went out
abbrev pub settles : {S : Type 0} → CleanCopy S → Bool
settles NotCleaning = false
settles copied.Stored = true
settles copied.NotYet = false
settles copied.NoSlot = true
settles (copied.Copied job) = true

module _ {S : Type 0} (process vpn : ℕ) (dirty marked : Bool) (spare spare' : Option S) (answer : CleanCopy S) where
  -- of a page, where its entry has D or not, and a cache has its dirty mark or not
  abbrev pub Copies : PageValue S → PageValue S → Type 0
  Copies page page' = (page'.origin ≡ page.origin) × ((page'.place, (spare', answer)) ≡ copied_clean process vpn dirty marked page.place spare)

  abbrev pub CopiesAt : List (ℕ × PageValue S) → List (ℕ × PageValue S) → Option (PageValue S) → Type 0
  CopiesAt old new (Some page) = ChangesBy Copies old new vpn
  CopiesAt old new None = (answer ≡ NotCleaning) × ((spare' ≡ spare) × (new ≡ old))

module _ {S : Type 0} where
  -- what is answered, which spare slot is left, and what the page is then
  abbrev pub CopiesPage : ℕ → Option S → Option S → CleanCopy S → PagedValue S → PagedValue S → Type 0
  CopiesPage vpn spare spare' answer old new =
      CopiesAt old.process vpn (dirty_of (entry_at old.tables vpn)) (is_marked vpn old.caches) spare spare' answer old.pages new.pages (page_at old.pages vpn)

  -- and what becomes of the copies that are out
  abbrev pub CopiesOut : ℕ → CleanCopy S → PagedValue S → PagedValue S → Type 0
  CopiesOut vpn NotCleaning old new = LeavesCopies old new
  CopiesOut vpn copied.Stored old new = LeavesCopies old new
  CopiesOut vpn copied.NotYet old new = LeavesCopies old new
  CopiesOut vpn copied.NoSlot old new = LeavesCopies old new
  CopiesOut vpn (copied.Copied job) old new = CopyGoesOut vpn job.copy old new

-- the copy comes back

module _ {S : Type 0} where
  -- it is the copy that is out of one of these pages, and it equals the page unless a store is reported
  abbrev pub IsCopyAt : SavedValue S → Bool → Option (PageValue S) → Type 0
  IsCopyAt job dirty page = StandsAt job.copy dirty page

  abbrev pub IsCopyOf : ℕ → SavedValue S → Bool → List (ℕ × PageValue S) → Type 0
  IsCopyOf process job dirty pages = (job.process ≡ process) × ((job.vpn < 2 ^ 20) × IsCopyAt job dirty (page_at pages job.vpn))

  -- the page's cleaning ends so
  abbrev pub EndsSo : SavedValue S → Bool → Cleaned S → PageValue S → PageValue S → Type 0
  EndsSo job dirty answer page page' = (page'.origin ≡ page.origin) × EndsCleaning job dirty page.place page'.place answer

  abbrev pub EndsAt : ℕ → SavedValue S → Bool → Cleaned S → List (ℕ × PageValue S) → List (ℕ × PageValue S) → Type 0
  EndsAt process job dirty answer old new = (job.process ≡ process) × ((job.vpn < 2 ^ 20) × ChangesBy (EndsSo job dirty answer) old new job.vpn)

  -- what is answered, and what the page is then; it is another page's copy, and nothing changes
  abbrev pub EndsCleaningOf : ℕ → SavedValue S → Bool → List (ℕ × PageValue S) → List (ℕ × PageValue S) → Cleaned S → Type 0
  EndsCleaningOf process job dirty old new (WrongPage back) = (back ≡ job) × ((new ≡ old) × (¬ IsCopyOf process job dirty old))
  EndsCleaningOf process job dirty old new Stored = EndsAt process job dirty Stored old new
  EndsCleaningOf process job dirty old new Device = EndsAt process job dirty Device old new
  EndsCleaningOf process job dirty old new Clean = EndsAt process job dirty Clean old new

  abbrev pub EndsCleaningIn : SavedValue S → Cleaned S → PagedValue S → PagedValue S → Type 0
  EndsCleaningIn job answer old new = EndsCleaningOf old.process job (dirty_of (entry_at old.tables job.vpn)) old.pages new.pages answer

  -- and what becomes of the copies that are out
  abbrev pub CopiesBack : SavedValue S → Cleaned S → PagedValue S → PagedValue S → Type 0
  CopiesBack job (WrongPage back) old new = LeavesCopies old new
  CopiesBack job Stored old new = CopyComesBack job.vpn old new
  CopiesBack job Device old new = CopyComesBack job.vpn old new
  CopiesBack job Clean old new = CopyComesBack job.vpn old new

-- which page may be cleaned

module _ {S : Type 0} where
  -- whether the page of a number is resident and counts as changed
  abbrev pub is_changed_resident : List (ℕ × PageValue S) → List (List ℕ) → ℕ → Bool
  is_changed_resident pages tables vpn = page_passes (λ page. is_resident_place page.place && changed (dirty_of (entry_at tables vpn)) page.place) (page_at pages vpn)

  abbrev pub is_changed_in : PagedValue S → ℕ → Bool
  is_changed_in memory vpn = is_changed_resident memory.pages memory.tables vpn
