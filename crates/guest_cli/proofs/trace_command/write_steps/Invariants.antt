use Rattle.std.proofs.Common.{◌≡◌, ◌+◌, ◌-◌, ◌≤◌, List, length}
use Rattle.guest_steps.specs.declared.told_step.ToldStep.{ToldStep}
use Rattle.guest_cli.specs.CountedRuns.{TellsAll}
use Rattle.guest_cli.specs.TracedRuns.{asked}
use Rattle.guest_cli.proofs.trace_command.write_steps.Given as goal

abbrev pub invariant-steps : goal.invariant-steps
invariant-steps g l = record {
  done : List ToldStep;
  told : TellsAll done l.fn.steps l.steps;
  counted : l.steps.done ≡ l.fn.steps.done + length done;
  lines : l.lines ≡ asked l.fn.request (l.fn.steps.done + 1) done;
  few : l.lines ≤ l.fn.request.count;
}

abbrev pub decreases-steps : goal.decreases-steps
decreases-steps g l = l.steps.limit - l.steps.done
