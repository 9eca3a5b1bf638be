use Rattle.page_memory.specs.Memory.{Memory}
use Rattle.decoded_pages.specs.Code.{ShowsAll}
use Rattle.flat_machine.specs.ImageCode.{HasImage}
use Rattle.flat_machine.proofs.opening.decoded_pages_of.Given as goal

abbrev pub invariant-loop-listed : goal.invariant-loop-listed
invariant-loop-listed l = (memory : Memory) → HasImage l.pages memory → ShowsAll l.decoded memory
