use Rattle.std.proofs.Common.{List, arith, subst, sym}
use Rattle.std.proofs.lemmas.Grind.{common_steps}
use Rattle.guest_strings.specs.declared.reference.Reference.{Reference}
use Rattle.trace_files.specs.WrittenPages.{AddsPages}
use Rattle.trace_files.proofs.WrittenPagesLaws.{one_added}
use Rattle.trace_files.proofs.written_pages.add_pages.Goals as goal

pub lines-preserved : goal.lines-preserved
lines-preserved c =
    let old = c.args.block.now.items in
    let step = one_added c.args.text.now c.lines.rest.now c.in-Some.others.now old c.lines.block.items c.in-Some.page c.lines.invariant.added c.in-Some.ensures.text c.in-Some.ensures.page in record {
      added = subst (λ (l : List Reference). AddsPages c.args.text.now c.in-Some.others.now old l) (sym c.in_ok-push.ensures.items) step;
      few = grind (arith, common_steps, c.in_ok-push.ensures.items, c.lines-test.true);
    }
