use Rattle.std.proofs.Common.{◌∙◌, ◌++◌, ap}
use Rattle.guest_strings.specs.ToCome.{listed, to_come}
use Rattle.policies_cli.specs.Traces.{rows_behind}
use Rattle.policies_cli.proofs.Writing.{row_on}
use Rattle.policies_cli.proofs.trace_command.write_rows.Goals as goal

pub references-preserved : goal.references-preserved
references-preserved g c = row_on (g.W.Write.contents c.args.out.now) (g.W.Write.contents c.references.out) (g.W.Write.contents c.write_csv.new.out) c.references.time c.saturating_add-time.result (to_come c.references.guests) (to_come c.next.new.self) (rows_behind 0 (to_come c.args.guests)) c.in-Some.reference c.references.invariant c.saturating_add-time.ensures c.in_ok-write_csv.ensures (c.in_ok-reference.ensures.next ∙ ap (λ o. listed o ++ to_come c.next.new.self) c.in-Some.is)
