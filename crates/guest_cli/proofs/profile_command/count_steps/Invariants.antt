use Rattle.std.proofs.Common.{◌-◌, List}
use Rattle.guest_steps.specs.declared.told_step.ToldStep.{ToldStep}
use Rattle.guest_profile.specs.Accounts.{Account, IsAccount, after_all}
use Rattle.guest_cli.specs.CountedRuns.{TellsAll}
use Rattle.guest_cli.proofs.profile_command.count_steps.Given as goal

abbrev pub invariant-steps : goal.invariant-steps
invariant-steps l = record {
  done : List ToldStep;
  told : TellsAll done l.fn.steps l.steps;
  counts : (account : Account) → IsAccount l.fn.profile account → IsAccount l.profile (after_all done account);
}

abbrev pub decreases-steps : goal.decreases-steps
decreases-steps l = l.steps.limit - l.steps.done
