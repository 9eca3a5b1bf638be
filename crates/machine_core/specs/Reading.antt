-- What the machine shows of a process, and what a look at bytes leaves.
use Rattle.std.specs.Prelude.{◌≡◌, ℕ, Bool, false, List, Option, Some, None, Result, slice_get, slice_index_or}
use Rattle.flat_machine.specs.Process.{Process}
use Rattle.paged_memory.specs.declared.peeking.PeekFault.{PeekFault}
use Rattle.machine_core.specs.Machine.{CoreValue}
use Rattle.machine_core.specs.MachineRun.{ChangesOne}
use Rattle.machine_sides.specs.Showing.{Peeks}
use Rattle.space_core.specs.StandsFor.{OfFlat, SpaceValue}

-- whether a process is there and has such a live hart
abbrev pub is_live_in : {S : Type 0} → Option (SpaceValue S) → ℕ → Bool
is_live_in None hart = false
is_live_in (Some process) hart = slice_index_or process.running.environment.live hart false

-- where slots are honest, this holds of the flat process that a process's schedule leaves, if there is such a process
abbrev pub IfThere : {S : Type 0} → Type 0 → (Process → Type 0) → Option (SpaceValue S) → Type 0
IfThere honest P None = Unit {0}
IfThere honest P (Some process) = OfFlat honest P process

module _ {S : Type 0} (held : S → List ℕ) (honest : Type 0) (failures : S → ℕ) where
  -- a look at bytes of a process of the machine
  pub record PeeksOne (process address : ℕ) (room bytes : List (Option ℕ)) (result : Result (Unit {0}) PeekFault) (old new : CoreValue S) : Type 0 where
    pub one : ChangesOne (Peeks held honest failures address room bytes result) process old.processes new.processes
    pub stays : new ≡ record old { processes = new.processes }

  -- of one that is there, or of none
  abbrev pub PeeksAt : ℕ → ℕ → List (Option ℕ) → List (Option ℕ) → Option (Result (Unit {0}) PeekFault) → CoreValue S → CoreValue S → Type 0
  PeeksAt process address room bytes None old new = (slice_get old.processes process ≡ None) × ((bytes ≡ room) × (new ≡ old))
  PeeksAt process address room bytes (Some result) old new = PeeksOne process address room bytes result old new
