use Rattle.std.proofs.Common.{List, [], ◌∷◌, ◌++◌, sym, ap, ◌∙◌, subst}
use Rattle.record_commands.specs.declared.row.Row.{Row}
use Rattle.record_commands.specs.Rows.{AreUnlike, Counts}
use Rattle.record_commands.proofs.Places.{counted_first}
use Rattle.record_commands.proofs.table.count.Goals as goal

pub returns-in_ok-push-in-None-clause-counts : goal.returns-in_ok-push-in-None-clause-counts
returns-in_ok-push-in-None-clause-counts c =
    let rows = c.args.rows.now.items in
    subst (λ (new : List Row). Counts c.args.seed c.args.closing.now rows new) (sym (c.in_ok-push-in-None.ensures.items ∙ ap (λ (r : Row). rows ++ r ∷ []) c.of.ensures))
    (counted_first c.args.seed c.args.closing.now rows (subst (AreUnlike c.args.closing.now) c.as_slice.ensures.value c.in-None.ensures))
