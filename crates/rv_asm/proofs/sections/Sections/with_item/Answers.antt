-- A label puts nothing into the sections.
use Rattle.std.proofs.Common.{◌≡◌, Ok, refl, subst, sym}
use Rattle.rv_asm.specs.SecondPass.{put}
use Rattle.rv_asm.specs.declared.item.Item.{Item}
use Rattle.rv_asm.proofs.sections.Sections.with_item.Goals as goal

pub returns-in-Label-clause-sections : goal.returns-in-Label-clause-sections
unfolding put
returns-in-Label-clause-sections c = subst (λ (item : Item). put c.args.program.now.items c.args.self item ≡ Ok c.args.self) (sym c.in-Label.is) refl
