use Rattle.std.proofs.Common.{◌≡◌, ◌+◌, ◌-◌, ◌≤◌}
use Rattle.debug_core.specs.Points.{all_there, bytes_from}
use Rattle.debug_core.proofs.memory_view.are_mapped.Given as goal

-- what is left is what the answer is of
abbrev pub invariant-addresses : goal.invariant-addresses
invariant-addresses g l =
    let memory = (g.T.Target.shown l.target).memory in
    record {
      rest : all_there (bytes_from memory l.address l.count) ≡ all_there (bytes_from memory (l.address + l.i) (l.count - l.i));
      within : l.i ≤ l.count;
    }
