use Rattle.std.proofs.Common.{◌≡◌, ◌+◌, ◌-◌, ◌≤◌, length, refl, ap, ◌∙◌, arith}
use Rattle.flat_machine.specs.Process.{Process}
use Rattle.debug_core.specs.Points.{bytes_from}
use Rattle.debug_core.proofs.ReadingLaws.{bytes_none}
use Rattle.paged_target.specs.Shown.{flat_at}
use Rattle.paged_target.proofs.PageBytes.{page_more, page_size, part_size}
use Rattle.paged_target.proofs.Recorded.{keeps_room}
use Rattle.paged_target.proofs.ReadsOn.{keeps_intact, keeps_same, keeps_then}
use Rattle.paged_target.proofs.reading.read.Goals as goal

pub pages-init : goal.pages-init
pages-init g c = record {
  here = bytes_none (flat_at c.args.core.now).memory c.args.address c.args.bytes.now;
  size = refl;
  within = omega arith;
  kept = keeps_same c.args.core.now c.requires.there;
}

pub read_page-requires-clause-intact : goal.read_page-requires-clause-intact
read_page-requires-clause-intact g c = keeps_intact c.args.core.now c.pages.core c.pages.invariant.kept c.requires.intact

pub pages-preserved : goal.pages-preserved
pages-preserved g c =
    let most = c.min-count.ensures in
    let as_many : c.pages.done + c.min-count.result - c.pages.done ≡ c.min-count.result = omega arith in
    let within : c.pages.done + c.min-count.result ≤ length c.pages.bytes = omega (arith, most, c.pages-test.true) in
    let same = c.pages.invariant.size in
    let inside : c.pages.done + c.min-count.result ≤ length c.args.bytes.now = omega (arith, within, same) in
    let read =
    c.read_page.ensures.bytes
    ∙ ap (λ n. bytes_from (flat_at c.pages.core).memory (c.args.address + c.pages.done) n) (part_size c.pages.bytes c.pages.done c.min-count.result _ as_many within)
    ∙ ap (λ (p : Process). bytes_from p.memory (c.args.address + c.pages.done) c.min-count.result) c.pages.invariant.kept.flat in
    let here =
    page_more (flat_at c.args.core.now).memory c.args.address c.pages.done c.min-count.result (c.pages.done + c.min-count.result - c.pages.done) c.pages.bytes c.args.bytes.now c.read_page.new.bytes as_many c.pages.invariant.here read in
    record {
      here = here;
      size = ap length here ∙ page_size (flat_at c.args.core.now).memory c.args.address (c.pages.done + c.min-count.result) c.args.bytes.now inside;
      within = inside;
      kept = keeps_then c.args.core.now c.pages.core c.read_page.new.core c.pages.invariant.kept c.read_page.ensures.kept;
    }

pub returns-clause-room : goal.returns-clause-room
returns-clause-room g c = keeps_room c.args.core.now c.pages.core c.pages.invariant.kept.recorded
