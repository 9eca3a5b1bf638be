-- A changed page of a process is cleaned while it is used, under only the process's lock: its cleaning begins, a copy of it goes out, and the
-- copy comes back.
use Rattle.std.specs.Prelude.{◌≡◌, ℕ, ◌≤◌, ◌<◌, ◌^◌, true, false, Option, Some, None, Result, Ok, Err}
use Rattle.clock_policy.specs.declared.key.Key.{Key}
use Rattle.machine_sides.specs.Cleaning.{Copies, StartsCleaning, TakesCopyBack, clean_bars, copy_bars}
use Rattle.machine_sides.specs.declared.cleaning.CleanBar.{CleanBar}
use Rattle.machine_sides.specs.declared.cleaning.CopyBar.{CopyBar}
use Rattle.machine_sides.specs.declared.cleaning.Copying.{Copying}
use Rattle.page_store.specs.JobValue.{SavedValue}
use Rattle.page_store.specs.declared.answer.Cleaned.{Cleaned}
use Rattle.page_store.specs.declared.answer.Cleaned.TheVariants as back
use Rattle.paged_memory.specs.cleaning.Cleaning.{is_changed_in}
use Rattle.pager_core.specs.Pager.{tallied}
use Rattle.space_core.specs.StandsFor.{SpaceValue}
use Rattle.swap_slots.specs.PoolValue.{PoolValue}
use Rattle.held_machine.specs.HeldValue.{HeldValue}
use Rattle.held_machine.specs.Holding.{IsElsewhere}
use Rattle.held_machine.specs.declared.cleaning.Begun.{Begun}
use Rattle.held_machine.specs.declared.cleaning.Begun.TheVariants.{NoPage, Page, Barred}

module _ {S : Type 0} where
  -- ---- a cleaning begins

  -- no page of a number from this one on is resident and counts as changed
  abbrev pub NoneChanged : ℕ → SpaceValue S → Type 0
  NoneChanged from space = (q : ℕ) → from ≤ q → q < 2 ^ 20 → is_changed_in space.memory q ≡ false

  -- the first of these pages that is
  pub record IsNextChanged (from vpn : ℕ) (space : SpaceValue S) : Type 0 where
    pub within : from ≤ vpn
    pub small : vpn < 2 ^ 20
    pub changed : is_changed_in space.memory vpn ≡ true
    pub least : (q : ℕ) → from ≤ q → q < vpn → is_changed_in space.memory q ≡ false

  -- its cleaning begins
  pub record BeginsPage (from vpn : ℕ) (old new : SpaceValue S) : Type 0 where
    pub next : IsNextChanged from vpn old
    pub starts : StartsCleaning vpn old new

  -- its cleaning does not begin, for the first reason that holds
  pub record BarsPage (from vpn : ℕ) (reason : CleanBar) (old new : SpaceValue S) : Type 0 where
    pub next : IsNextChanged from vpn old
    pub barred : clean_bars old vpn ≡ Some reason
    pub stays : new ≡ old

  abbrev pub BeginsNext : ℕ → Begun → SpaceValue S → SpaceValue S → Type 0
  BeginsNext from NoPage old new = NoneChanged from old × (new ≡ old)
  BeginsNext from (Page vpn) old new = BeginsPage from vpn old new
  BeginsNext from (Barred vpn reason) old new = BarsPage from vpn reason old new

  -- of what the lock holds only the process changes
  pub record BeginsHeld (from : ℕ) (reply : Begun) (old new : HeldValue S) : Type 0 where
    pub begins : BeginsNext from reply old.side new.side
    pub held_is : new ≡ record old { side = new.side }

  -- of the process of this number, or of another one
  abbrev pub BeginsWhere : (number from : ℕ) → Option Begun → HeldValue S → HeldValue S → Type 0
  BeginsWhere number from None old new = IsElsewhere number old new
  BeginsWhere number from (Some reply) old new = (old.side.memory.process ≡ number) × BeginsHeld from reply old new

  -- ---- a copy goes out

  -- what is answered, and what becomes of the process and of the free slots
  pub record CopiesPage (vpn : ℕ) (answer : Copying S) (old new : SpaceValue S) (slots slots' : PoolValue S) : Type 0 where
    pub unbarred : copy_bars old vpn ≡ None
    pub copies : Copies vpn old new slots slots' answer

  -- no copy is looked for, for the first reason that holds
  pub record BarsCopy (vpn : ℕ) (reason : CopyBar) (old new : SpaceValue S) (slots slots' : PoolValue S) : Type 0 where
    pub barred : copy_bars old vpn ≡ Some reason
    pub stays : new ≡ old
    pub slots_stay : slots' ≡ slots

  abbrev pub CopiesOrNot : ℕ → Result (Copying S) CopyBar → SpaceValue S → SpaceValue S → PoolValue S → PoolValue S → Type 0
  CopiesOrNot vpn (Ok answer) old new slots slots' = CopiesPage vpn answer old new slots slots'
  CopiesOrNot vpn (Err reason) old new slots slots' = BarsCopy vpn reason old new slots slots'

  pub record CopiesHeld (vpn : ℕ) (answer : Result (Copying S) CopyBar) (old new : HeldValue S) (slots slots' : PoolValue S) : Type 0 where
    pub copies : CopiesOrNot vpn answer old.side new.side slots slots'
    pub held_is : new ≡ record old { side = new.side }

  abbrev pub CopiesWhere : Key → Option (Result (Copying S) CopyBar) → HeldValue S → HeldValue S → PoolValue S → PoolValue S → Type 0
  CopiesWhere key None old new slots slots' = IsElsewhere key.process old new × (slots' ≡ slots)
  CopiesWhere key (Some answer) old new slots slots' = (old.side.memory.process ≡ key.process) × CopiesHeld key.vpn answer old new slots slots'

  -- ---- the copy comes back

  -- how many pages were cleaned, once this was answered
  abbrev pub cleans_after : Cleaned S → ℕ → ℕ
  cleans_after (back.WrongPage job) cleans = cleans
  cleans_after back.Stored cleans = cleans
  cleans_after back.Device cleans = cleans
  cleans_after back.Clean cleans = tallied cleans

  pub record CleansHeld (job : SavedValue S) (answer : Cleaned S) (old new : HeldValue S) : Type 0 where
    pub ends : TakesCopyBack job answer old.side new.side
    pub held_is : new ≡ record old { side = new.side; cleans = cleans_after answer old.cleans }

  abbrev pub CleansWhere : SavedValue S → Option (Cleaned S) → HeldValue S → HeldValue S → Type 0
  CleansWhere job None old new = IsElsewhere job.process old new
  CleansWhere job (Some answer) old new = (old.side.memory.process ≡ job.process) × CleansHeld job answer old new
