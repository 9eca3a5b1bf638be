use Rattle.std.proofs.Common.{None, slice_set, ap, ◌∙◌, ◌/◌, ◌%◌}
use Rattle.std.proofs.lemmas.List.{get_or_default}
use Rattle.page_memory.proofs.Indexing.{new_leaf}
use Rattle.page_memory.proofs.page_index.keep.Goals as goal

pub returns-in_ok-leaf-in-None-clause-ok : goal.returns-in_ok-leaf-in-None-clause-ok
returns-in_ok-leaf-in-None-clause-ok c =
    new_leaf c.args.directory.now c.args.page c.args.number _ c.requires
    (get_or_default c.args.directory.now (c.args.page / 1024) None c.index-directory-page.result c.requires ∙ c.in-None.is)
    (ap (λ l. slice_set l (c.args.page % 1024) c.args.number) (c.deref_mut-in-None.ensures.value ∙ c.in_ok-leaf-in-None.ensures.ok))
