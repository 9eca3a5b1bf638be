use Rattle.std.proofs.Common.{◌≡◌, ◌<◌, ◌≤◌, ◌-◌, length, arith, sym, subst, position, ◌==◌, None, Some, ap, ◌∙◌}
use Rattle.page_memory.specs.PageIndex.{kept_number}
use Rattle.page_memory.proofs.Indexing.{listed, unlisted}
use Rattle.page_memory.proofs.page_index.PageIndex.find.Goals as goal

pub returns-then-number-eq0-clause-place : goal.returns-then-number-eq0-clause-place
returns-then-number-eq0-clause-place c =
    let kept_none : kept_number c.self.inside.directory.items c.args.page ≡ 0 = ap (λ d. kept_number d c.args.page) (sym c.deref.ensures.value) ∙ sym c.number_in-number.ensures ∙ c.if-number-eq0.true in
    sym (subst (λ l. position (λ q. q == c.args.page) l ≡ None) c.self.view_is (unlisted _ _ _ c.self.invariant kept_none))

pub returns-else-number-eq0-clause-place : goal.returns-else-number-eq0-clause-place
returns-else-number-eq0-clause-place c =
    let kept_some : c.number_in-number.result ≡ kept_number c.self.inside.directory.items c.args.page = c.number_in-number.ensures ∙ ap (λ d. kept_number d c.args.page) c.deref.ensures.value in
    let some : 0 < kept_number c.self.inside.directory.items c.args.page = omega arith in
    ap (λ n. Some (n - 1)) kept_some ∙ sym (subst (λ l. position (λ q. q == c.args.page) l ≡ Some (kept_number c.self.inside.directory.items c.args.page - 1)) c.self.view_is (listed _ _ _ c.self.invariant some))

pub returns-else-number-eq0-clause-within : goal.returns-else-number-eq0-clause-within
returns-else-number-eq0-clause-within c =
    let kept_some : c.number_in-number.result ≡ kept_number c.self.inside.directory.items c.args.page = c.number_in-number.ensures ∙ ap (λ d. kept_number d c.args.page) c.deref.ensures.value in
    let within : kept_number c.self.inside.directory.items c.args.page ≤ length c.args.self.now = subst (λ l. kept_number c.self.inside.directory.items c.args.page ≤ length l) c.self.view_is (c.self.invariant.within c.args.page) in
    omega arith
