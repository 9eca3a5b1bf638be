use Rattle.std.proofs.Common.{◌≡◌, replicate, None, ap, subst, sym, ◌∙◌, ◌++◌, ◌∷◌, [], arith}
use Rattle.std.proofs.lemmas.List.{replicate-append-replicate}
use Rattle.page_memory.specs.PageIndex.{Indexes}
use Rattle.page_memory.proofs.Indexing.{empty_index}
use Rattle.page_memory.proofs.page_index.PageIndex.new.Goals as goal

pub loop-preserved : goal.loop-preserved
loop-preserved c = c.in_ok-push.ensures.items ∙ ap (λ d. d ++ None ∷ []) c.loop.invariant ∙ replicate-append-replicate c.loop.counter 1 None

pub invariant_of-result : goal.invariant_of-result
invariant_of-result c =
    let full : c.loop.counter ≡ 1024 = omega arith in
    (subst (λ l. Indexes c.loop.directory.items l) (sym c.new.ensures.items) (empty_index _ (c.loop.invariant ∙ ap (λ n. replicate n None) full)))
