-- As many processes stay, and those so far have given their pages back.
use Rattle.std.proofs.Common.{◌≡◌, vec_len}
use Rattle.held_machine.specs.Purging.{PurgesEach}
use Rattle.held_machine.proofs.parts.Parts.purge_all.Given as goal

abbrev pub invariant-loop-number : goal.invariant-loop-number
invariant-loop-number g l = record {
  many : vec_len l.self.processes ≡ vec_len l.fn.self.processes;
  end : l.number-end ≡ vec_len l.fn.self.processes;
  purges : PurgesEach l.number (record { desk = l.fn.self.desk; held = l.fn.self.processes.items; slots = l.fn.self.slots }) (record { desk = l.self.desk; held = l.self.processes.items; slots = l.self.slots });
}
