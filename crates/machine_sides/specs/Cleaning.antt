-- A resident page of a process is cleaned while it is used: why it is not, and what becomes of the process and of the free slots.
use Rattle.std.specs.Prelude.{◌≡◌, ℕ, ◌^◌, ◌<◌, Bool, true, false, Option, Some, None, option_map, is_some, List, ◌++◌, [], ◌∷◌, IsNone, IfSome, IfNone, ◌↔◌, nat_lt, length, if◌then◌else◌}
use Rattle.page_store.specs.JobValue.{SavedValue}
use Rattle.page_store.specs.declared.answer.CleanCopy.{CleanCopy}
use Rattle.page_store.specs.declared.answer.CleanCopy.TheVariants as copied
use Rattle.page_store.specs.declared.answer.Cleaned.{Cleaned}
use Rattle.page_store.specs.declared.refusal.CleanRefusal.{CleanRefusal}
use Rattle.page_store.specs.declared.refusal.CleanRefusal.TheVariants as refusal
use Rattle.paged_memory.specs.cleaning.Cleaning.{BeginsCleaning, CopiesPage, CopiesBack, CopiesOut, EndsCleaningIn, clean_refusal_in, is_cleaning_in, settles}
use Rattle.paged_memory.specs.moves.Moving.{OnlyPages, slot_in}
use Rattle.space_core.specs.StandsFor.{SpaceValue}
use Rattle.swap_slots.specs.PoolValue.{PoolValue}
use Rattle.machine_sides.specs.Collecting.{TakesSlot}
use Rattle.machine_sides.specs.declared.cleaning.CleanBar.{CleanBar}
use Rattle.machine_sides.specs.declared.cleaning.CleanBar.TheVariants as bar
use Rattle.machine_sides.specs.declared.cleaning.CopyBar.{CopyBar}
use Rattle.machine_sides.specs.declared.cleaning.CopyBar.TheVariants as copy
use Rattle.machine_sides.specs.declared.cleaning.Copying.{Copying}
use Rattle.machine_sides.specs.declared.cleaning.Copying.TheVariants.{Stored, NotYet, NoSlot, Copied}

-- the same reason, of a page among its process's
abbrev pub bar_of : CleanRefusal → CleanBar
bar_of refusal.NotResident = bar.NotResident
bar_of refusal.NotChanged = bar.NotChanged
bar_of refusal.AlreadyCleaning = bar.AlreadyCleaning

module _ {S : Type 0} where
  -- ---- why a page is not cleaned: the first reason that holds

  abbrev pub page_bar : SpaceValue S → ℕ → Option CleanBar
  page_bar space vpn = if nat_lt vpn (2 ^ 20) then option_map bar_of (clean_refusal_in (is_some space.running.ending) space.memory vpn) else Some bar.NotResident

  abbrev pub clean_bars : SpaceValue S → ℕ → Option CleanBar
  clean_bars space vpn = if is_some space.running.ending then Some bar.Ended else page_bar space vpn

  -- whether the page of a number is being cleaned and no copy of it is out, whatever the number
  abbrev pub is_cleaning_at : SpaceValue S → ℕ → Bool
  is_cleaning_at space vpn = if nat_lt vpn (2 ^ 20) then is_cleaning_in space.memory vpn else false

  -- why no copy of it is looked for
  abbrev pub copy_bars : SpaceValue S → ℕ → Option CopyBar
  copy_bars space vpn = if is_some space.running.ending then Some copy.Ended else (if is_cleaning_at space vpn then None else Some copy.NotCleaning)

  -- ---- what becomes of a process whose page is cleaned

  -- a page's cleaning begins
  pub record StartsCleaning (vpn : ℕ) (old new : SpaceValue S) : Type 0 where
    pub small : vpn < 2 ^ 20
    pub moves : BeginsCleaning (is_some old.running.ending) vpn old.memory new.memory
    pub stays : new ≡ record old { memory = new.memory }

  -- only its process changes, and in its memory only the pages
  pub record LendsSpare (vpn : ℕ) (spare spare' : Option S) (answer : CleanCopy S) (old new : SpaceValue S) : Type 0 where
    pub small : vpn < 2 ^ 20
    pub page : CopiesPage vpn spare spare' answer old.memory new.memory
    pub only : OnlyPages old.memory new.memory
    pub copies : CopiesOut vpn answer old.memory new.memory
    pub same : settles answer ≡ false → new ≡ old
    pub stays : new ≡ record old { memory = new.memory }

  -- the free slots once a copy was asked for: one fewer where it takes one of them along
  abbrev pub SlotsAfter : Option S → PoolValue S → PoolValue S → CleanCopy S → Type 0
  SlotsAfter own slots slots' copied.NotCleaning = slots' ≡ slots
  SlotsAfter own slots slots' copied.Stored = slots' ≡ slots
  SlotsAfter own slots slots' copied.NotYet = slots' ≡ slots
  SlotsAfter own slots slots' copied.NoSlot = slots' ≡ slots
  SlotsAfter own slots slots' (copied.Copied job) = TakesSlot own job.slot slots.free slots'.free × (slots'.size ≡ slots.size)

  -- the copy of a page, which is asked for with a free slot at hand if there is one; it goes back where it is not taken
  pub record PageCopied (vpn : ℕ) (answer : CleanCopy S) (old new : SpaceValue S) (slots slots' : PoolValue S) : Type 0 where
    pub spare : Option S
    pub spare' : Option S
    pub lends : LendsSpare vpn spare spare' answer old new
    pub empty : IsNone spare ↔ (slots.free ≡ [])
    pub slots_after : SlotsAfter (slot_in old.memory vpn) slots slots' answer

  -- the answer of a page that is being cleaned
  abbrev pub copy_of_answer : Copying S → CleanCopy S
  copy_of_answer Stored = copied.Stored
  copy_of_answer NotYet = copied.NotYet
  copy_of_answer NoSlot = copied.NoSlot
  copy_of_answer (Copied job) = copied.Copied job

  abbrev pub Copies : ℕ → SpaceValue S → SpaceValue S → PoolValue S → PoolValue S → Copying S → Type 0
  Copies vpn old new slots slots' answer = PageCopied vpn (copy_of_answer answer) old new slots slots'

  -- a slot that was not taken is in the pool again
  pub record SpareBack (spare : Option S) (slots slots' : PoolValue S) : Type 0 where
    pub one : IfSome spare (λ slot. (length slots.free ≡ slots.size → ⊥) → slots'.free ≡ slots.free ++ slot ∷ [])
    pub none : IfNone spare (slots'.free ≡ slots.free)
    pub size : slots'.size ≡ slots.size

  -- a copy comes back to its process
  pub record TakesCopyBack (job : SavedValue S) (answer : Cleaned S) (old new : SpaceValue S) : Type 0 where
    pub ends : EndsCleaningIn job answer old.memory new.memory
    pub only : OnlyPages old.memory new.memory
    pub copies : CopiesBack job answer old.memory new.memory
    pub stays : new ≡ record old { memory = new.memory }
