use Rattle.std.proofs.Common.{sym, ap, ◌∙◌, subst, List}
use Rattle.tlb_core.specs.declared.translation.Translation.{Translation}
use Rattle.tlb_core.specs.Cache.{OnePerPage, has_mark}
use Rattle.tlb_core.proofs.CacheLaws.{marked_as}
use Rattle.tlb_core.proofs.tlb.Tlb.holds_dirty.Goals as goal

pub returns-in-Some : goal.returns-in-Some
returns-in-Some c =
    let one : OnePerPage c.args.self.now = subst (λ (l : List Translation). OnePerPage l) c.self.view_is c.self.invariant.one in
    record { mark = ap has_mark (sym c.in-Some.is ∙ c.look.ensures) ∙ sym (marked_as c.args.page c.args.self.now one) }

pub returns-in-None : goal.returns-in-None
returns-in-None c =
    let one : OnePerPage c.args.self.now = subst (λ (l : List Translation). OnePerPage l) c.self.view_is c.self.invariant.one in
    record { mark = ap has_mark (sym c.in-None.is ∙ c.look.ensures) ∙ sym (marked_as c.args.page c.args.self.now one) }
