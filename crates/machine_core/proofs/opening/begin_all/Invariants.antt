-- So many processes as were started begin.
use Rattle.std.proofs.Common.{map}
use Rattle.elf_image.specs.Start.{start_of}
use Rattle.machine_core.specs.Opening.{AllBegin}
use Rattle.machine_core.proofs.opening.begin_all.Given as goal

abbrev pub invariant-loop-image : goal.invariant-loop-image
invariant-loop-image g l = AllBegin (map (λ start. start_of start.0 start.1.items) l.yielded) l.sides.items
