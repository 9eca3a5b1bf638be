use Rattle.std.proofs.Common.{◌≡◌, ℕ, ◌<◌, Some, slice_get}
use Rattle.machine_core.specs.Coherent.{IsCoherent}
use Rattle.machine_core.proofs.coherence.each_coheres.Given as goal
use Rattle.space_core.specs.StandsFor.{SpaceValue}

abbrev pub invariant-loop-side : goal.invariant-loop-side
invariant-loop-side g l = (number : ℕ) (process : SpaceValue _) → number < l.side-index → slice_get l.processes number ≡ Some process → IsCoherent g.S.SwapSlot.content g.S.SwapSlot.honest process
