-- The next uses of a string are inside it.
use Rattle.std.proofs.Common.{◌∙◌, subst, sym}
use Rattle.whole_strings.specs.WorkingSets.{Inside}
use Rattle.whole_strings.proofs.WorkingSetLaws.{inside_uses}
use Rattle.whole_strings.proofs.working_sets.window_curve.Goals as goal

pub count_ahead-requires : goal.count_ahead-requires
count_ahead-requires c = subst Inside (sym (c.as_slice.ensures.value ∙ c.in_ok-uses.ensures)) (inside_uses c.args.string.now)

pub count_returning-requires : goal.count_returning-requires
count_returning-requires c = subst Inside (sym (c.as_slice-2.ensures.value ∙ c.in_ok-uses.ensures)) (inside_uses c.args.string.now)
