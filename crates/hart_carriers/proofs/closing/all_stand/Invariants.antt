-- Each of those so far stands for its flat run.
use Rattle.std.proofs.Common.{ℕ, ◌<◌, slice_index_or}
use Rattle.held_machine.specs.HeldValue.{HeldValue}
use Rattle.space_core.specs.StandsFor.{StandsFor}
use Rattle.hart_carriers.proofs.closing.all_stand.Given as goal

abbrev pub invariant-loop-held : goal.invariant-loop-held
invariant-loop-held g l = (k : ℕ) (d : HeldValue g.row.S.Denot) → k < l.held-index → g.S.SwapSlot.honest → StandsFor g.S.SwapSlot.content (slice_index_or l.processes k d).side
