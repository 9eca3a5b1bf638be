-- One more entry of the list, up to its end.
use Rattle.std.proofs.Common.{◌&&◌, length, ◌≤◌, sym, ◌∙◌, arith}
use Rattle.clock_policy.specs.Residents.{residents, is_resident_that, in_frame}
use Rattle.machine_sides.specs.Held.{is_resident_of}
use Rattle.machine_sides.proofs.CountedLaws.{entry_more, count_end, count_whole, one_by}
use Rattle.machine_sides.proofs.counting.entries_of_resident_pages.Goals as goal

pub returns-in_default : goal.returns-in_default
unfolding residents
returns-in_default g c =
    count_end (is_resident_that (is_resident_of c.args.side.now)) c.args.pager.now.pager.list.entries c.entries.i c.entries.count c.entries.invariant.0
    (sym c.entry.ensures ∙ c.in_default.is)

pub entries-preserved : goal.entries-preserved
entries-preserved g c =
    let more = entry_more (is_resident_of c.args.side.now) c.args.pager.now.pager.list.entries c.entries.i c.in-Some.key c.in-Some.kind (sym c.entry.ensures ∙ c.in-Some.is) in
    let one =
    one_by c.one_if-count.result c.is_of_resident_page.result (in_frame c.in-Some.kind && is_resident_of c.args.side.now c.in-Some.key) c.one_if-count.ensures.value c.is_of_resident_page.ensures in
    (omega (arith, c.entries.invariant.0, more, one), omega (arith, c.entries.invariant.1, c.one_if-count.ensures.small))

pub returns : goal.returns
unfolding residents
returns g c =
    let lawful = c.question.ensures.lawful in
    let few : length c.args.pager.now.pager.list.entries ≤ c.entries.i = omega (arith, lawful.within, lawful.most) in
    count_whole (is_resident_that (is_resident_of c.args.side.now)) c.args.pager.now.pager.list.entries c.entries.i c.entries.count c.entries.invariant.0 few
