-- When a place's next step wants memory.
use Rattle.std.specs.Prelude.{◌≡◌, ℕ, List, Some, slice_get}
use Rattle.flat_machine.specs.Process.{Process}
use Rattle.flat_machine.specs.Refusals.{WantsMemory}
use Rattle.guest_strings.specs.declared.turns.Turn.{Turn}
use Rattle.guest_strings.specs.declared.round.Round.{Round}
use Rattle.guest_strings.specs.declared.guest_string.GuestString.{GuestString}
use Rattle.guest_strings.specs.References.{process_of, hart_of}

-- its process is there, and its hart's next step makes the output longer or maps pages
pub record WantsAtPlace (place : ℕ) (processes : List Process) : Type 0 where
  pub process : Process
  pub there : slice_get processes (process_of place) ≡ Some process
  pub wants : WantsMemory (hart_of place) process

-- it is a place's turn whose next step wants memory
pub record RoundWants (round : Round) : Type 0 where
  pub turn : Turn
  pub now : round.turn ≡ Some turn
  pub wants : WantsAtPlace turn.place round.processes.items

-- the next instruction of the string wants memory
abbrev pub StringWants : GuestString → Type 0
StringWants string = RoundWants string.uses.round
