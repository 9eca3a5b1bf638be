use Rattle.std.proofs.Common.{◌/◌, ◌+◌, ◌≤◌, ℕ, List, length, subst, sym, ap, ◌∙◌, rules, arith}
use Rattle.std.proofs.lemmas.List.{with_items_is, places}
use Rattle.byteorder.specs.Endian.{little_bytes}
use Rattle.page_memory.specs.Words.{bytes_in}
use Rattle.page_memory.specs.Pages.{overwritten}
use Rattle.page_memory.specs.PageRow.{page_of_row, with_page}
use Rattle.page_memory.proofs.PageRows.{lies_within, rewritten, offset_fits}
use Rattle.page_memory.proofs.page_row.PageRow.put_number.Goals as goal

pub put_number_in-requires-clause-within : goal.put_number_in-requires-clause-within
put_number_in-requires-clause-within c =
    let place = c.args.first / 4096 in
    let lies = lies_within c.self.inside.rights c.self.inside.bytes.items place c.args.self.now c.self.view_is c.self.invariant c.requires.within in
    let within : c.args.first + 4096 ≤ length c.self.inside.bytes.items = omega (arith, c.requires.whole) in
    subst (λ (l : List ℕ). c.args.first + 4096 ≤ length l) (sym c.as_mut_slice.ensures.value) within

pub returns : goal.returns
returns c =
    let place = c.args.first / 4096 in
    rewritten c.self.inside.rights c.self.inside.bytes.items place c.args.self.now c.args.offset (little_bytes (bytes_in c.args.width) c.args.word) _ c.self.view_is c.self.invariant c.requires.within (offset_fits c.args.width c.args.offset c.args.word c.requires.aligned c.requires.small)
    (with_items_is c.self.inside.bytes c.put_number_in.new.bytes (search (rules, places)) ∙ c.put_number_in.ensures
    ∙ ap (λ (l : List ℕ). with_page place (overwritten (page_of_row place l) c.args.offset (little_bytes (bytes_in c.args.width) c.args.word)) l) c.as_mut_slice.ensures.value)
