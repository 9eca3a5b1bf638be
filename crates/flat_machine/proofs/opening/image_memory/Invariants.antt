use Rattle.std.proofs.Common.{◌≡◌, map, take}
use Rattle.std.specs.FinMap.{from_entries}
use Rattle.page_memory.specs.Memory.{unreserved}
use Rattle.flat_machine.specs.Process.{image_entry}
use Rattle.flat_machine.proofs.opening.image_memory.Given as goal

abbrev pub invariant-loop-listed : goal.invariant-loop-listed
invariant-loop-listed l = l.memory ≡ unreserved (from_entries (map image_entry (take l.listed-index l.pages)))
