use Rattle.std.proofs.Common.{map, take}
use Rattle.flat_machine.specs.Process.{image_entry}
use Rattle.paged_memory.specs.Fresh.{MapsFresh}
use Rattle.space_core.proofs.opening.opening_memory.Given as goal

abbrev pub invariant-loop-listed : goal.invariant-loop-listed
invariant-loop-listed g l = record {
  maps : MapsFresh l.process (map image_entry (take l.listed-index l.pages)) l.memory;
}
