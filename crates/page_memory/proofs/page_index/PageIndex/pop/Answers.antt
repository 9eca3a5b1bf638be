use Rattle.std.proofs.Common.{◌≡◌, ap, ◌∙◌, ◌++◌, ◌∷◌, [], rules, subst}
use Rattle.std.specs.Option.{option_to_list}
use Rattle.page_memory.specs.PageIndex.{Indexes, Keeps}
use Rattle.page_memory.proofs.Indexing.{one_less, lent}
use Rattle.page_memory.proofs.page_index.PageIndex.pop.Goals as goal

pub invariant_of-self : goal.invariant_of-self
invariant_of-self c =
    let pages : c.self.inside.pages.items ≡ c.pop.new.self.items ++ c.in-Some.page ∷ [] = c.pop.ensures.items ∙ ap (λ o. c.pop.new.self.items ++ option_to_list o) c.in-Some.is in
    let kept : Keeps c.self.inside.directory.items c.clear.new.directory c.in-Some.page 0 = rw (← c.deref_mut.ensures.value) c.clear.ensures in
    let directory = lent c.self.inside.directory.items c.clear.new.directory c.self.inside.directory.len kept.wide (search rules) in
    rw directory (one_less _ _ _ _ (subst (λ l. Indexes c.self.inside.directory.items l) pages c.self.invariant) kept)
