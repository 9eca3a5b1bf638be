-- A machine begins: every frame and every slot is free, and no page of any process was brought in.
use Rattle.std.specs.Prelude.{◌≡◌, ℕ, ◌<◌, Some, slice_get, length, List, []}
use Rattle.pager_core.specs.Pager.{full_pager}
use Rattle.machine_core.specs.Machine.{CoreValue}
use Rattle.elf_image.specs.Start.{Start}
use Rattle.machine_sides.specs.Starting.{Begins}
use Rattle.space_core.specs.StandsFor.{SpaceValue}

module _ {S : Type 0} where
  -- the process of a number begins as the start of that number in a list says
  pub record BeginsAt (starts : List Start) (processes : List (SpaceValue S)) (number : ℕ) : Type 0 where
    pub start : Start
    pub process : SpaceValue S
    pub given : slice_get starts number ≡ Some start
    pub found : slice_get processes number ≡ Some process
    pub begins : Begins number start process

  -- there is one process for each start, and no other
  pub record AllBegin (starts : List Start) (processes : List (SpaceValue S)) : Type 0 where
    pub many : length processes ≡ length starts
    pub each : (number : ℕ) → number < length starts → BeginsAt starts processes number

  -- a machine of so many frames, of these slots and of these processes, before its first event
  pub record MachineBegins (frames : ℕ) (free : List S) (starts : List Start) (core : CoreValue S) : Type 0 where
    pub pager : core.pager ≡ record { pager = full_pager frames; saves = 0; drops = 0 }
    pub slots : core.slots ≡ record { free = free; size = length free }
    pub processes : AllBegin starts core.processes
    pub jobs : core.jobs ≡ []
    pub copies : core.copies ≡ []
