use Rattle.std.proofs.Common.{◌≡◌, ◌==◌, not, List, map, slice_get, refl, sym, ◌∙◌}
use Rattle.guest_profile.specs.declared.call_site.Jump.{Jump}
use Rattle.guest_profile.specs.Calls.{HartCalls, calls_of, followed, hart_call_after, hart_calls, hart_level}
use Rattle.guest_profile.specs.Counting.{counted, counts_of}
use Rattle.guest_profile.specs.Pages.{used_by}
use Rattle.guest_profile.specs.Sums.{step_of}
use Rattle.guest_profile.specs.UsedPagesOf.{use_of}
use Rattle.guest_profile.proofs.CountedSteps.{no_word, no_insn, insn_counted}
use Rattle.guest_profile.proofs.profile.Profile.count.Goals as goal

pub returns-in_default : goal.returns-in_default
returns-in_default c = λ account kept. no_word c.args.self.now c.args.told.now account c.in_default.field-0 c.in_default.is kept

pub returns-in_default-decode : goal.returns-in_default-decode
returns-in_default-decode c = λ account kept.
    let level : c.level-is_inner.result ≡ hart_level (slice_get (map hart_calls c.args.self.now.stacks.items) c.args.told.now.hart) =
    c.level-is_inner.ensures ∙ (λ i. hart_level (slice_get (map hart_calls (c.as_slice.ensures.value i)) c.args.told.now.hart)) in
    no_insn c.args.self.now _ c.args.told.now account c.in-Ok.word c.in-Ok.is (sym c.in_default-decode.ensures.value)
    (λ at. c.in_ok-count.ensures at ∙ (λ i. counted (c.pc-pc.ensures i) c.in-Ok.word (not (c.pc-next.ensures i == c.next_pc.ensures i)) (level i == 2) at (counts_of c.args.self.now.insns at)))
    refl refl refl kept

pub returns : goal.returns
returns c = λ account kept.
    let harts : List HartCalls = map hart_calls c.args.self.now.stacks.items in
    let hart = c.args.told.now.hart in
    let level : c.level-is_inner.result ≡ hart_level (slice_get harts hart) =
    c.level-is_inner.ensures ∙ (λ i. hart_level (slice_get (map hart_calls (c.as_slice.ensures.value i)) hart)) in
    insn_counted c.args.self.now _ c.args.told.now account c.in-Ok.word c.in-Some.insn c.in-Ok.is (sym c.in-Some.ensures.value)
    (λ at. c.in_ok-count.ensures at ∙ (λ i. counted (c.pc-pc.ensures i) c.in-Ok.word (not (c.pc-next.ensures i == c.next_pc.ensures i)) (level i == 2) at (counts_of c.args.self.now.insns at)))
    (λ site.
    c.in_ok-follow.ensures.calls site
    ∙ (λ i. let jump : Jump = record { site = c.pc-pc.ensures i; target = c.pc-next.ensures i; sp = c.x.ensures i; step = (c.of_step.ensures ∙ (λ j. step_of c.in-Some.insn (not (c.pc-next.ensures j == c.next_pc.ensures j)))) i } in hart_call_after (slice_get harts hart) (c.flow_of-flow.ensures i) jump site (calls_of c.args.self.now.calls site)))
    (λ page. c.in_ok-mark.ensures page ∙ (λ i. used_by (c.access_of.ensures i) page (use_of c.args.self.now.pages page)))
    (c.in_ok-follow.ensures.harts ∙ (λ i. let jump : Jump = record { site = c.pc-pc.ensures i; target = c.pc-next.ensures i; sp = c.x.ensures i; step = (c.of_step.ensures ∙ (λ j. step_of c.in-Some.insn (not (c.pc-next.ensures j == c.next_pc.ensures j)))) i } in followed hart (c.flow_of-flow.ensures i) jump harts))
    kept
