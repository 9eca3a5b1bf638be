use Rattle.std.proofs.Common.{◌≡◌, ◌-◌, ◌++◌, map}
use Rattle.std.specs.List.{range_with_len}
use Rattle.std.specs.FinMap.{from_entries}
use Rattle.page_memory.specs.Memory.{unreserved}
use Rattle.flat_machine.specs.Process.{image_entry, stack_entry}
use Rattle.flat_machine.proofs.opening.opening_memory.Given as goal

abbrev pub invariant-loop-number : goal.invariant-loop-number
invariant-loop-number l = l.memory ≡ unreserved (from_entries (map image_entry l.pages ++ map stack_entry (range_with_len 524224 (l.number - 524224))))
