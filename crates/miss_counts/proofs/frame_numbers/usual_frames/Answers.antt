use Rattle.std.proofs.Common.{◌<◌, ◌≤◌, ◌++◌, ◌∙◌, List, sym, ap, subst}
use Rattle.page_policies.specs.declared.frames.Frames.{Frames}
use Rattle.miss_counts.specs.FrameNumbers.{doublings}
use Rattle.miss_counts.proofs.Doublings.{all_to_come, one_more, goes_on, ends, numbers_of}
use Rattle.miss_counts.proofs.frame_numbers.usual_frames.Goals as goal

pub powers-init : goal.powers-init
powers-init c = all_to_come c.args.pages ∙ ap (λ (l : List Frames). numbers_of l ++ doublings c.args.pages 2 11) (sym c.new-all.ensures.items)

pub powers-preserved : goal.powers-preserved
powers-preserved c =
    goes_on c.args.pages c.powers.power (numbers_of c.push.new.self.items)
    (subst (λ n. n < c.args.pages) (c.number.ensures.number ∙ c.power_of_two-frames.ensures) c.if-number-pages.false)
    (one_more c.args.pages c.powers.power c.powers.all.items c.push.new.self.items c.power_of_two-frames.result c.powers-test.true c.power_of_two-frames.ensures
    c.in_ok-push.ensures.items c.powers.invariant)

pub returns-then-number-pages : goal.returns-then-number-pages
returns-then-number-pages c =
    ends c.args.pages c.powers.power (numbers_of c.push.new.self.items)
    (subst (λ n. c.args.pages ≤ n) (c.number.ensures.number ∙ c.power_of_two-frames.ensures) c.if-number-pages.true)
    (one_more c.args.pages c.powers.power c.powers.all.items c.push.new.self.items c.power_of_two-frames.result c.powers-test.true c.power_of_two-frames.ensures
    c.in_ok-push.ensures.items c.powers.invariant)
