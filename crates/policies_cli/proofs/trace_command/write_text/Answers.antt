use Rattle.std.proofs.Common.{◌∙◌, ◌++◌, ap}
use Rattle.guest_strings.specs.ToCome.{listed, to_come}
use Rattle.policies_cli.proofs.Writing.{line_on}
use Rattle.policies_cli.proofs.trace_command.write_text.Goals as goal

pub references-preserved : goal.references-preserved
references-preserved g c = line_on (g.W.Write.contents c.args.out.now) (g.W.Write.contents c.references.out) (g.W.Write.contents c.write_line.new.out) (to_come c.references.guests) (to_come c.next.new.self) (to_come c.args.guests) c.in-Some.reference c.references.invariant c.in_ok-write_line.ensures (c.in_ok-reference.ensures.next ∙ ap (λ o. listed o ++ to_come c.next.new.self) c.in-Some.is)
