use Rattle.std.proofs.Common.{◌∙◌, ℕ, ap}
use Rattle.ticked_policies.specs.declared.ticked_rule.TickedRule.TheVariants.{NotRecentlyUsed}
use Rattle.ticked_policies.specs.Ticked.{nru_misses, ticked_misses}
use Rattle.ticked_policies.proofs.ticked_state.Ticked.nru.Goals as goal

pub returns : goal.returns
unfolding nru_misses
returns c = λ string. c.new.ensures string ∙ ap (λ (e : ℕ). ticked_misses NotRecentlyUsed e c.args.frames.number string) c.every_of-every.ensures
