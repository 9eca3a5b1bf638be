use Rattle.std.proofs.Common.{◌≡◌, sym, subst, position, ◌==◌, None, ap, ◌∙◌, ◌++◌, ◌∷◌, [], ◌+◌, length, rules}
use Rattle.page_memory.specs.PageIndex.{Keeps}
use Rattle.page_memory.proofs.Indexing.{one_more, lent}
use Rattle.page_memory.proofs.page_index.PageIndex.push.Goals as goal

pub invariant_of-self-2 : goal.invariant_of-self-2
invariant_of-self-2 c =
    let absent : position (λ q. q == c.args.page) c.self.inside.pages.items ≡ None = subst (λ l. position (λ q. q == c.args.page) l ≡ None) (sym c.self.view_is) c.requires.absent in
    let number : c.len.result ≡ length c.self.inside.pages.items = search rules in
    let kept : Keeps c.self.inside.directory.items c.keep.new.directory c.args.page (length c.self.inside.pages.items + 1) = rw (← number, ← c.deref_mut.ensures.value) c.in_ok-keep.ensures.ok in
    let pages : c.push_reserved.new.self.items ≡ c.self.inside.pages.items ++ c.args.page ∷ [] = c.push_reserved.ensures.items ∙ ap (λ l. l ++ c.args.page ∷ []) c.reserve.ensures.items in
    let directory = lent c.self.inside.directory.items c.keep.new.directory c.self.inside.directory.len kept.wide (search rules) in
    rw (directory, pages) (one_more _ _ _ _ c.self.invariant c.requires.small absent kept)
