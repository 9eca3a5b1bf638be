-- The machine's events of a page that is cleaned while it is used: when each is refused, and what comes of it.
use Rattle.std.specs.Prelude.{◌≡◌, ℕ, List, [], ◌∷◌, ◌++◌, Some, Result, Ok, Err, slice_get, slice_set, OnOk, OnErr}
use Rattle.page_store.specs.JobValue.{JobValue, SavedValue}
use Rattle.page_store.specs.declared.answer.Cleaned.{Cleaned}
use Rattle.page_store.specs.declared.answer.Cleaned.TheVariants as end
use Rattle.paged_memory.specs.cleaning.Cleaning.{refused_of}
use Rattle.paged_memory.specs.Coheres.{HoldsIn}
use Rattle.paged_memory.specs.Paged.{memory_of}
use Rattle.swap_slots.specs.PoolValue.{PoolValue}
use Rattle.machine_core.specs.declared.event.Reply.{Reply}
use Rattle.machine_core.specs.declared.event.Reply.TheVariants as reply
use Rattle.machine_sides.specs.Cleaning.{StartsCleaning, Copies, TakesCopyBack, clean_bars, copy_bars}
use Rattle.machine_sides.specs.declared.cleaning.CleanBar.{CleanBar}
use Rattle.machine_sides.specs.declared.cleaning.CopyBar.{CopyBar}
use Rattle.machine_sides.specs.declared.cleaning.CopyBar.TheVariants as copy
use Rattle.machine_sides.specs.declared.cleaning.Copying.{Copying}
use Rattle.machine_sides.specs.declared.cleaning.Copying.TheVariants.{Stored, NotYet, NoSlot, Copied}
use Rattle.space_core.specs.StandsFor.{SpaceValue}
use Rattle.machine_core.specs.CleaningEvents.{clean_barred, copy_barred}

-- what the beginning of a cleaning is replied with
abbrev pub clean_reply : Result (Unit {0}) CleanBar → Reply
clean_reply (Ok done) = reply.Cleaning
clean_reply (Err why) = reply.Refused (clean_barred why)

module _ {S : Type 0} where
  -- what comes of a copy that the machine wrote itself, and the reply to it
  abbrev pub IsOwnCopy : Cleaned S → Type 0
  IsOwnCopy (end.WrongPage back) = ⊥
  IsOwnCopy end.Stored = Unit {0}
  IsOwnCopy end.Device = Unit {0}
  IsOwnCopy end.Clean = Unit {0}

  -- a page's cleaning begins in the process of this number, or does not
  pub record CleansAt (held : S → List ℕ) (number vpn : ℕ) (old new : List (SpaceValue S)) (result : Result (Unit {0}) CleanBar) : Type 0 where
    pub process : SpaceValue S
    pub process' : SpaceValue S
    pub found : slice_get old number ≡ Some process
    pub starts : OnOk result (StartsCleaning vpn process process')
    pub barred : refused_of result ≡ clean_bars process vpn
    pub err : OnErr result (process' ≡ process)
    pub memory : memory_of held process'.memory ≡ memory_of held process.memory
    pub is : new ≡ slice_set old number process'

  -- a copy is asked for in the process of this number
  abbrev pub IfCopies : ℕ → SpaceValue S → SpaceValue S → PoolValue S → PoolValue S → Result (Copying S) CopyBar → Type 0
  IfCopies vpn old new slots slots' (Ok answer) = Copies vpn old new slots slots' answer
  IfCopies vpn old new slots slots' (Err why) = (new ≡ old) × (slots' ≡ slots)

  pub record CopiesAt (held : S → List ℕ) (number vpn : ℕ) (slots slots' : PoolValue S) (old new : List (SpaceValue S)) (result : Result (Copying S) CopyBar) : Type 0 where
    pub process : SpaceValue S
    pub process' : SpaceValue S
    pub found : slice_get old number ≡ Some process
    pub how : IfCopies vpn process process' slots slots' result
    pub barred : refused_of result ≡ copy_bars process vpn
    pub memory : memory_of held process'.memory ≡ memory_of held process.memory
    pub is : new ≡ slice_set old number process'

  -- the copies that are out after it, and the reply
  abbrev pub copies_after : Result (Copying S) CopyBar → List (JobValue S) → List (JobValue S)
  copies_after (Ok Stored) copies = copies
  copies_after (Ok NotYet) copies = copies
  copies_after (Ok NoSlot) copies = copies
  copies_after (Ok (Copied job)) copies = copies ++ job ∷ []
  copies_after (Err why) copies = copies

  abbrev pub copy_reply : Result (Copying S) CopyBar → Reply
  copy_reply (Ok Stored) = reply.Stored
  copy_reply (Ok NotYet) = reply.NotYet
  copy_reply (Ok NoSlot) = reply.NoSlot
  copy_reply (Ok (Copied job)) = reply.Copied
  copy_reply (Err why) = reply.Refused (copy_barred why)

  -- a copy comes back to the process of this number, whose pages, tables and caches go together
  pub record CopyBackAt (held : S → List ℕ) (honest : Type 0) (job : SavedValue S) (number : ℕ) (old new : List (SpaceValue S)) (came : Cleaned S) : Type 0 where
    pub process : SpaceValue S
    pub process' : SpaceValue S
    pub found : slice_get old number ≡ Some process
    pub agree : HoldsIn held honest process.memory
    pub ends : TakesCopyBack job came process process'
    pub memory : memory_of held process'.memory ≡ memory_of held process.memory
    pub is : new ≡ slice_set old number process'
