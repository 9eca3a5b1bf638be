-- Which entries of the list are of a process's resident pages.
use Rattle.std.specs.Prelude.{◌==◌, ◌&&◌, Bool}
use Rattle.clock_policy.specs.declared.key.Key.{Key}
use Rattle.space_core.specs.StandsFor.{SpaceValue}
use Rattle.machine_sides.specs.Admitting.{is_resident_at}

-- whether a key is of a process's page that is resident
abbrev pub is_resident_of : {S : Type 0} → SpaceValue S → Key → Bool
is_resident_of space key = (key.process == space.memory.process) && is_resident_at space key.vpn
