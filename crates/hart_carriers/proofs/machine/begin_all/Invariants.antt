-- As many processes were added as there are viewers, one for each start so far.
use Rattle.std.proofs.Common.{◌≡◌, vec_len}
use Rattle.hart_carriers.proofs.machine.begin_all.Given as goal

abbrev pub invariant-loop-image : goal.invariant-loop-image
invariant-loop-image g l = record { added : l.shared.processes ≡ l.image-index; slots : l.shared.slots ≡ l.fn.shared.slots; seen : vec_len l.viewers ≡ l.image-index }
