use Rattle.std.proofs.Common.{◌≡◌, None, sym, ◌∙◌, subst, List}
use Rattle.tlb_core.specs.declared.translation.Translation.{Translation}
use Rattle.tlb_core.specs.Cache.{translation_of}
use Rattle.tlb_core.proofs.CrowdLaws.{lacked_nowhere}
use Rattle.tlb_core.proofs.tlb.Tlb.look.Goals as goal

pub returns-in_default : goal.returns-in_default
returns-in_default c =
    subst (λ (l : List Translation). None ≡ translation_of c.args.page l) c.self.view_is
    (sym (lacked_nowhere c.self.inside.crowds.counts c.self.inside.entries c.args.page c.self.invariant.counted (sym c.lack.ensures ∙ c.if-lack.true)))
