use Rattle.std.proofs.Common.{◌≡◌, sym, ap, ◌∙◌, subst, arith}
use Rattle.std.proofs.lemmas.List.{get_or_default}
use Rattle.record_commands.specs.declared.row.Row.{Row}
use Rattle.record_commands.proofs.RowLaws.{few_times}
use Rattle.record_commands.specs.Rows.{Counts, more}
use Rattle.std.proofs.Common.{slice_set}
use Rattle.record_commands.proofs.Places.{counted_again}
use Rattle.record_commands.proofs.table.count_again.Goals as goal

pub overflow_add-index_mut : goal.overflow_add-index_mut
overflow_add-index_mut c =
    let few = c.requires.few in
    let all = few_times c.args.rows.now.items c.args.place c.index_mut.result.now c.requires.like.there in
    let same = ap (λ (r : Row). r.times) c.index_mut.ensures.value in
    omega (arith, few, all, same)

pub returns-clause-counts : goal.returns-clause-counts
returns-clause-counts c =
    let like = c.requires.like in
    let rows = c.args.rows.now.items in
    let same : c.index_mut.result.now ≡ like.row =
    c.index_mut.ensures.value ∙ get_or_default rows c.args.place c.index_mut.result.now like.row like.there ∙ sym like.row_is in
    subst (λ (r : Row). Counts c.args.seed c.args.closing.now rows (slice_set rows c.args.place (more r))) (sym same)
    (counted_again c.args.seed c.args.closing.now rows c.args.place like.row like.there like.row_is like.like like.unlike)
