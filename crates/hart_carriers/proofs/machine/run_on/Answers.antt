-- The processes that an audit finds sound are those whose lines are reported.
use Rattle.std.proofs.Common.{rules, ◌∙◌, ap, sym}
use Rattle.hart_carriers.proofs.machine.run_on.Goals as goal

pub returns-clause-standing : goal.returns-clause-standing
returns-clause-standing g c = λ audit. record {
  ends = record {
    desk = c.into_parts.result.desk;
    held = c.into_parts.result.processes.items;
    many = search rules;
    come = c.close.ensures.come audit;
    sound = c.close.ensures.sound audit;
    agree = c.close.ensures.agree audit;
    size = c.close.ensures.size audit ∙ sym c.close.ensures.frames;
    counts = c.close.ensures.counts;
    cleans = search rules;
  };
  stand = c.close.ensures.stand;
}
