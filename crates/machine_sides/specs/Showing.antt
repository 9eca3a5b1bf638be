-- What a process shows, and what a look at bytes leaves.
use Rattle.std.specs.Prelude.{◌≡◌, ℕ, List, length, Option, Some, Result, OnOk, OnErr, IfErr}
use Rattle.flat_machine.specs.Process.{Process, opening, flat_run}
use Rattle.flat_machine.specs.Schedule.{written_out}
use Rattle.page_memory.specs.Words.{page_number}
use Rattle.paged_memory.specs.moves.Moving.{ShowsIn, LeavesLookedAt, DoesNotShow, SameFailures, with_pages}
use Rattle.paged_memory.specs.Paged.{memory_of}
use Rattle.paged_memory.specs.Peeking.{bytes_of}
use Rattle.paged_memory.specs.declared.peeking.PeekFault.{PeekFault}
use Rattle.space_core.specs.StandsFor.{SpaceValue}

module _ {S : Type 0} (held : S → List ℕ) (honest : Type 0) (failures : S → ℕ) where
  -- a look at bytes of a page, from an address on: where slots are honest they are the flat process's, whatever process the
  -- schedule leaves; nothing changes except a slot that was read, and it reports no further failure; a refusal leaves the room as it was
  pub record Peeks (address : ℕ) (room bytes : List (Option ℕ)) (result : Result (Unit {0}) PeekFault) (old new : SpaceValue S) : Type 0 where
    pub read : OnOk result (ShowsIn held honest old.memory address (length room) bytes)
    pub shown : honest → OnOk result (bytes_of (memory_of held old.memory) address (length room) ≡ Some bytes)
    pub flat : honest → OnOk result ((flat : Process) → flat_run (written_out old.schedule) (opening old.image old.input) ≡ Some flat → bytes_of flat.memory address (length room) ≡ Some bytes)
    pub passed : OnOk result (SameFailures failures (page_number address) old.memory new.memory)
    pub unread : OnErr result (bytes ≡ room)
    pub refused : IfErr result (DoesNotShow held honest failures address old.memory new.memory)
    pub left : LeavesLookedAt held honest address old.memory new.memory
    pub memory : honest → memory_of held new.memory ≡ memory_of held old.memory
    pub stays : new ≡ record old { memory = with_pages old.memory new.memory }
