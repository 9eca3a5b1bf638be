use Rattle.std.proofs.Common.{◌*◌, ◌+◌, ◌≤◌, ℕ, List, length, subst, sym, ap, ◌∙◌, rules}
use Rattle.std.proofs.lemmas.List.{with_items_is, places}
use Rattle.page_memory.specs.Pages.{overwritten}
use Rattle.page_memory.specs.PageRow.{page_of_row, with_page}
use Rattle.page_memory.proofs.PageRows.{lies_within, rewritten}
use Rattle.page_memory.proofs.page_row.PageRow.put_bytes.Goals as goal

pub put_bytes_in-requires-clause-within : goal.put_bytes_in-requires-clause-within
put_bytes_in-requires-clause-within c =
    subst (λ (l : List ℕ). c.args.place * 4096 + 4096 ≤ length l) (sym c.as_mut_slice.ensures.value) (lies_within c.self.inside.rights c.self.inside.bytes.items c.args.place c.args.self.now c.self.view_is c.self.invariant c.requires.within)

pub returns : goal.returns
returns c =
    rewritten c.self.inside.rights c.self.inside.bytes.items c.args.place c.args.self.now c.args.offset c.args.bytes.now _ c.self.view_is c.self.invariant c.requires.within c.requires.fits
    (with_items_is c.self.inside.bytes c.put_bytes_in.new.bytes (search (rules, places)) ∙ c.put_bytes_in.ensures
    ∙ ap (λ (l : List ℕ). with_page c.args.place (overwritten (page_of_row c.args.place l) c.args.offset c.args.bytes.now) l) c.as_mut_slice.ensures.value)
