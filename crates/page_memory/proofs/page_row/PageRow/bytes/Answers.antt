use Rattle.std.proofs.Common.{◌/◌, ◌+◌, ◌≤◌, ℕ, List, length, subst, sym, ap, ◌∙◌, arith}
use Rattle.page_memory.specs.PageRow.{page_of_row}
use Rattle.page_memory.proofs.PageRows.{lies_within, shows_bytes}
use Rattle.page_memory.proofs.page_row.PageRow.bytes.Goals as goal

pub page_in-requires : goal.page_in-requires
page_in-requires c =
    let place = c.args.first / 4096 in
    let lies = lies_within c.self.inside.rights c.self.inside.bytes.items place c.args.self.now c.self.view_is c.self.invariant c.requires.within in
    let within : c.args.first + 4096 ≤ length c.self.inside.bytes.items = omega (arith, c.requires.whole) in
    record { whole = c.requires.whole; within = subst (λ (l : List ℕ). c.args.first + 4096 ≤ length l) (sym c.as_slice.ensures.value) within }

pub returns-clause-bytes : goal.returns-clause-bytes
returns-clause-bytes c =
    shows_bytes c.self.inside.rights c.self.inside.bytes.items (c.args.first / 4096) c.args.self.now c.page_in.result.now c.self.view_is c.requires.within
    (c.page_in.ensures.page ∙ ap (page_of_row (c.args.first / 4096)) c.as_slice.ensures.value)
