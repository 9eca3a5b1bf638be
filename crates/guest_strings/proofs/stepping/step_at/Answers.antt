use Rattle.std.proofs.Common.{◌/◌, slice_index_or}
use Rattle.std.proofs.lemmas.Option.{slice_get-get_or}
use Rattle.guest_strings.proofs.Staying.{err_then}
use Rattle.guest_strings.proofs.stepping.step_at.Goals as goal

pub returns-clause-wants : goal.returns-clause-wants
returns-clause-wants c =
    err_then c.step_of.result (λ wants. record {
      process = slice_index_or c.args.processes.now (c.args.place / 8) c.index-processes-number.result;
      there = slice_get-get_or c.args.processes.now (c.args.place / 8) c.index-processes-number.result c.if-number-processes.false;
      wants = wants;
    }) c.step_of.ensures.wants
