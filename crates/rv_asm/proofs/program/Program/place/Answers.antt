use Rattle.std.proofs.Common.{◌∙◌}
use Rattle.rv_asm.proofs.Places.{place_low}
use Rattle.rv_asm.proofs.program.Program.place.Goals as goal

pub returns-clause-low : goal.returns-clause-low
returns-clause-low c = place_low c.self.inside.items.items c.self.inside.places _ _ c.args.name.now c.copied.result c.self.invariant (c.copied.ensures ∙ c.get.ensures.value ∙ c.self.invariant.names c.args.name.now)
