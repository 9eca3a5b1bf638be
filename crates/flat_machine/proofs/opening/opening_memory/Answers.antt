use Rattle.std.proofs.Common.{◌≡◌, ◌++◌, ◌-◌, ◌+◌, map, arith, ap, ◌∙◌}
use Rattle.std.specs.FinMap.{get, insert, from_entries}
use Rattle.std.specs.List.{range_with_len}
use Rattle.page_memory.specs.Memory.{Memory, unreserved}
use Rattle.flat_machine.specs.Process.{image_entry, stack_entry}
use Rattle.flat_machine.proofs.PagesLaws.{stack_below, unmapped, one_more_page, one_more_stack}
use Rattle.flat_machine.proofs.opening.opening_memory.Goals as goal

pub map_page-requires-clause-absent : goal.map_page-requires-clause-absent
map_page-requires-clause-absent c =
    let below = stack_below c.args.pages.now c.loop-number.number c.requires (omega arith) in
    ap (λ (m : Memory). get m.pages c.loop-number.number) c.loop-number.invariant ∙ unmapped c.loop-number.number c.loop-number.number _ below (omega arith)

pub loop-number-preserved : goal.loop-number-preserved
loop-number-preserved c =
    let below = stack_below c.args.pages.now c.loop-number.number c.requires (omega arith) in
    let k : (c.loop-number.number - 524224) + 1 ≡ (c.loop-number.number + 1) - 524224 = omega arith in
    let at : 524224 + (c.loop-number.number - 524224) ≡ c.loop-number.number = omega arith in
    c.in_ok-map_page.ensures.ok
    ∙ (λ i. record { pages = insert (c.loop-number.invariant i).pages c.loop-number.number (c.in_ok-page.ensures i); reserved = (c.loop-number.invariant i).reserved })
    ∙ ap unreserved (one_more_page c.loop-number.number c.loop-number.number _ _ below (omega arith))
    ∙ ap (λ entries. unreserved (from_entries entries)) (one_more_stack c.args.pages.now (c.loop-number.number - 524224) c.loop-number.number at)
    ∙ ap (λ n. unreserved (from_entries (map image_entry c.args.pages.now ++ map stack_entry (range_with_len 524224 n)))) k

pub returns : goal.returns
returns c =
    let all : c.loop-number.number - 524224 ≡ 64 = omega arith in
    c.loop-number.invariant ∙ ap (λ n. unreserved (from_entries (map image_entry c.args.pages.now ++ map stack_entry (range_with_len 524224 n)))) all
