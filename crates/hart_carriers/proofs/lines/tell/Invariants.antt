use Rattle.std.proofs.Common.{◌≡◌, ◌≤◌, length, map, true, vec_capacity}
use Rattle.machine_sides.specs.Reporting.{come_to, told}
use Rattle.hart_carriers.specs.Telling.{ToldSoFar}
use Rattle.hart_carriers.proofs.lines.tell.Given as goal

abbrev pub invariant-loop-ran : goal.invariant-loop-ran
invariant-loop-ran g l = record {
  so_far : ToldSoFar g.S.SwapSlot.honest l.handed l.told;
  come : l.told.started ≡ true → map told l.told.processes.items ≡ map (λ ran. come_to ran.process) l.yielded;
  many : length l.told.processes.items ≤ length l.handed;
  room : length l.handed ≤ vec_capacity l.told.processes;
  space : length l.handed ≤ vec_capacity l.told.published;
}
