use Rattle.std.proofs.Common.{◌∙◌, ℕ, ap}
use Rattle.ticked_policies.specs.declared.ticked_rule.TickedRule.TheVariants.{Aging}
use Rattle.ticked_policies.specs.Ticked.{aging_misses, ticked_misses}
use Rattle.ticked_policies.proofs.ticked_state.Ticked.aging.Goals as goal

pub returns : goal.returns
unfolding aging_misses
returns c = λ string. c.new.ensures string ∙ ap (λ (e : ℕ). ticked_misses (Aging c.args.ticks.bits) e c.args.frames.number string) c.every_of-every.ensures
