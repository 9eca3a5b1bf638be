use Rattle.std.proofs.Common.{◌∙◌, ◌+◌, ◌++◌, ◌<◌, ap, sym, arith, subst, drop}
use Rattle.elf_image.specs.declared.image.ImagePage.{ImagePage}
use Rattle.elf_image.specs.declared.runs.Run.{Run}
use Rattle.elf_image.specs.WrittenFiles.{run_of, goes_on, joined, runs_from}
use Rattle.elf_image.proofs.PageRuns.{run_begins, run_grows, run_ends, runs_end, runs_of_none}
use Rattle.elf_image.proofs.runs.runs_of.Goals as goal
use Rattle.elf_image.proofs.runs.runs_of.Goals.{then-goes_on, else-goes_on+in_ok-push}

pub returns-in_default : goal.returns-in_default
returns-in_default c = c.new-found.ensures.items ∙ runs_of_none c.args.pages.now c.in_default.ensures.item.3

pub loop-place-init : goal.loop-place-init
loop-place-init c =
    let there = c.in-Some.ensures.item.3 in
    record {
      behind = ap (λ (r : Run). r.place + r.count) c.of-run.ensures;
      low = subst (λ (r : Run). r.number < 458752) (sym c.of-run.ensures) (subst (λ (p : ImagePage). p.number < 458752) (sym (there.1 c.in-Some.first.now)) (c.requires.low 0 c.in-Some.first.now there.0));
      found = (λ i. c.new-found.ensures.items i ++ joined (c.of-run.ensures i) (runs_from 1 (drop 1 c.args.pages.now))) ∙ run_begins c.args.pages.now c.in-Some.first.now there.0 (there.1 c.in-Some.first.now);
    }

pub loop-place-preserved : goal.loop-place-preserved
loop-place-preserved c =
    let pages = c.args.pages.now in
    let place = c.loop-place.place in
    let one = c.index-pages-place.result in
    let run = c.loop-place.run in
    let found = c.loop-place.found.items in
    let later = runs_from (place + 1) (drop (place + 1) pages) in
    elim c.if-goes_on.branch [
      | then-goes_on w ↦ record {
        behind = let grown = ap (λ (r : Run). r.place + r.count) w.run-is in let before = c.loop-place.invariant.behind in omega arith;
        low = subst (λ (r : Run). r.number < 458752) (sym w.run-is) c.loop-place.invariant.low;
        found =
            (λ i. (w.found-is i).items ++ joined (w.run-is i) later)
            ∙ run_grows pages place one run found (omega arith) c.index-pages-place.is (ap (goes_on run) (sym c.of-next.ensures) ∙ sym c.goes_on.ensures ∙ w.if-goes_on.true) c.loop-place.invariant.found;
      }
      | else-goes_on+in_ok-push w ↦
          let next = w.run-is ∙ c.of-next.ensures in
          record {
            behind = ap (λ (r : Run). r.place + r.count) next;
            low = subst (λ (r : Run). r.number < 458752) (sym next) (subst (λ (p : ImagePage). p.number < 458752) (sym c.index-pages-place.is) (c.requires.low place one (omega arith)));
            found =
                (λ i. (w.found-is i).items ++ joined (next i) later)
                ∙ ap (λ l. l ++ joined (run_of place one) later) w.in_ok-push.ensures.items
                ∙ run_ends pages place one run found (omega arith) c.index-pages-place.is (ap (goes_on run) (sym c.of-next.ensures) ∙ sym c.goes_on.ensures ∙ w.if-goes_on.false) c.loop-place.invariant.found;
          }
    ]

pub returns : goal.returns
returns c = c.in_ok-push-2.ensures.items ∙ runs_end c.args.pages.now c.loop-place.place c.loop-place.run c.loop-place.found.items (omega arith) c.loop-place.invariant.found
