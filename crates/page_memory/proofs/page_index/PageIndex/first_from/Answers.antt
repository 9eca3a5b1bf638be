use Rattle.std.proofs.Common.{◌≡◌, ℕ, ◌≤◌, ◌<◌, ◌^◌, ◌==◌, List, None, true, is_some, IfSome, IfNone, position, sym, subst}
use Rattle.page_memory.specs.PageIndex.{Indexes}
use Rattle.page_memory.proofs.Indexing.{some_listed, none_before, none_at_all}
use Rattle.page_memory.proofs.page_index.PageIndex.first_from.Goals as goal

pub returns-clause-listed : goal.returns-clause-listed
returns-clause-listed c =
    let is = subst (λ d. Indexes d c.self.inside.pages.items) (sym c.deref.ensures.value) c.self.invariant in
    subst (λ (l : List ℕ). IfSome c.first_kept.result (λ page. is_some (position (λ listed. listed == page) l) ≡ true)) c.self.view_is
    (some_listed c.deref.result.now c.self.inside.pages.items c.first_kept.result is c.first_kept.ensures.kept)

pub returns-clause-before : goal.returns-clause-before
returns-clause-before c =
    let is = subst (λ d. Indexes d c.self.inside.pages.items) (sym c.deref.ensures.value) c.self.invariant in
    subst (λ (l : List ℕ). IfSome c.first_kept.result (λ page. (q : ℕ) → c.args.from ≤ q → q < page → position (λ listed. listed == q) l ≡ None)) c.self.view_is
    (none_before c.deref.result.now c.self.inside.pages.items c.args.from c.first_kept.result is c.first_kept.ensures.before)

pub returns-clause-none : goal.returns-clause-none
returns-clause-none c =
    let is = subst (λ d. Indexes d c.self.inside.pages.items) (sym c.deref.ensures.value) c.self.invariant in
    subst (λ (l : List ℕ). IfNone c.first_kept.result ((q : ℕ) → c.args.from ≤ q → q < 2 ^ 20 → position (λ listed. listed == q) l ≡ None)) c.self.view_is
    (none_at_all c.deref.result.now c.self.inside.pages.items c.args.from (2 ^ 20) c.first_kept.result is c.first_kept.ensures.none)
