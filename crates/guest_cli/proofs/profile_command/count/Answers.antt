use Rattle.guest_profile.specs.Accounts.{after_all, nothing}
use Rattle.guest_cli.proofs.profile_command.count.Goals as goal

pub returns : goal.returns
returns c =
    let all = c.in_ok-end.ensures in
    record {
      steps = all.steps;
      last = c.count_steps.new.steps;
      told = all.told;
      over = all.over;
      many = c.done.ensures;
      counts = c.in_ok-end-2.ensures (after_all all.steps nothing) (all.counts nothing c.in_ok-profile.ensures);
    }
