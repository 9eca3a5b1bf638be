-- Parts by decoded instructions and parts by words are the hart's instructions one after another.
use Rattle.std.proofs.Common.{◌≡◌, ◌<◌, ◌+◌, ◌-◌, sym, subst, ◌∙◌, refl, arith}
use Rattle.decoded_pages.proofs.Runs.{all_shown_on}
use Rattle.paged_memory.specs.Paged.{memory_of}
use Rattle.space_core.specs.HartLoop.{RunsEach, RunsUntil}
use Rattle.space_core.proofs.DecodedRuns.{each_append, each_harts, each_read_only, until_after, until_done}
use Rattle.space_core.proofs.StepsOn.{none_done}
use Rattle.space_core.proofs.hart_loop.run_many.Goals as goal

pub loop-left-init : goal.loop-left-init
loop-left-init g c =
    let none : c.args.most - c.args.most ≡ 0 = omega arith in
    record {
      each =
          subst (λ n. RunsEach g.S.SwapSlot.content g.S.SwapSlot.honest c.args.hart n c.args.regs.now c.args.memory.now c.args.regs.now c.args.memory.now) (sym none)
          (none_done g.S.SwapSlot.content g.S.SwapSlot.honest c.args.hart c.args.regs.now c.args.memory.now);
      started = refl;
      within = omega arith;
    }

pub run_part-part-requires-clause-shows : goal.run_part-part-requires-clause-shows
run_part-part-requires-clause-shows g c =
    let l = c.loop-left in
    all_shown_on c.args.decoded.now (memory_of g.S.SwapSlot.content c.args.memory.now) (memory_of g.S.SwapSlot.content l.memory)
    (each_read_only g.S.SwapSlot.content g.S.SwapSlot.honest c.args.hart (c.args.most - l.left) c.args.regs.now c.args.memory.now l.regs l.memory l.invariant.each) c.requires.shows

pub run_words-halt-requires : goal.run_words-halt-requires
run_words-halt-requires g c =
    let l = c.loop-left in
    let part = c.run_part-part in
    record {
      started = subst (λ n. c.args.hart < n) (sym (each_harts g.S.SwapSlot.content g.S.SwapSlot.honest c.args.hart (l.left - part.result.left) l.regs l.memory part.new.regs part.new.memory part.ensures.each ∙ l.invariant.started)) c.requires.started;
    }

pub returns-then-halt-ne0-clause-harts : goal.returns-then-halt-ne0-clause-harts
returns-then-halt-ne0-clause-harts g c =
    let l = c.loop-left in
    let part = c.run_part-part in
    c.run_words-halt.ensures.harts ∙ each_harts g.S.SwapSlot.content g.S.SwapSlot.honest c.args.hart (l.left - part.result.left) l.regs l.memory part.new.regs part.new.memory part.ensures.each ∙ l.invariant.started

pub returns-then-halt-ne0-clause-ran : goal.returns-then-halt-ne0-clause-ran
returns-then-halt-ne0-clause-ran g c =
    let l = c.loop-left in
    let part = c.run_part-part in
    let words = c.run_words-halt in
    let some = c.if-halt-ne0.true in
    let counted : c.args.most - l.left + (l.left - part.result.left) + (c.by_words-words.result - words.result.left) ≡ c.args.most - (part.result.left - c.by_words-words.result + words.result.left) =
    omega (arith, l.invariant.within, part.ensures.within, c.by_words-words.ensures.within, words.ensures.within) in
    subst (λ n. RunsUntil g.S.SwapSlot.content g.S.SwapSlot.honest c.args.hart c.args.most n words.result.last c.args.regs.now c.args.memory.now words.new.regs words.new.memory) counted
    (until_after g.S.SwapSlot.content g.S.SwapSlot.honest c.args.hart (c.args.most - l.left + (l.left - part.result.left)) c.args.most c.by_words-words.result (c.by_words-words.result - words.result.left) words.result.last
    c.args.regs.now c.args.memory.now part.new.regs part.new.memory words.new.regs words.new.memory
    (each_append g.S.SwapSlot.content g.S.SwapSlot.honest c.args.hart (c.args.most - l.left) (l.left - part.result.left) c.args.regs.now c.args.memory.now l.regs l.memory part.new.regs part.new.memory l.invariant.each part.ensures.each)
    words.ensures.ran
    (omega (arith, words.ensures.within, some))
    (omega (arith, l.invariant.within, part.ensures.within, c.by_words-words.ensures.within, words.ensures.within, some)))

pub loop-left-preserved : goal.loop-left-preserved
loop-left-preserved g c =
    let l = c.loop-left in
    let part = c.run_part-part in
    let words = c.run_words-halt in
    let none = c.if-halt-ne0.false in
    let all : c.by_words-words.result - words.result.left ≡ c.by_words-words.result = omega (arith, none) in
    let counted : c.args.most - l.left + (l.left - part.result.left) + c.by_words-words.result ≡ c.args.most - (part.result.left - c.by_words-words.result + words.result.left) =
    omega (arith, l.invariant.within, part.ensures.within, c.by_words-words.ensures.within, none) in
    record {
      each =
          subst (λ n. RunsEach g.S.SwapSlot.content g.S.SwapSlot.honest c.args.hart n c.args.regs.now c.args.memory.now words.new.regs words.new.memory) counted
          (each_append g.S.SwapSlot.content g.S.SwapSlot.honest c.args.hart (c.args.most - l.left + (l.left - part.result.left)) c.by_words-words.result c.args.regs.now c.args.memory.now part.new.regs part.new.memory words.new.regs words.new.memory
          (each_append g.S.SwapSlot.content g.S.SwapSlot.honest c.args.hart (c.args.most - l.left) (l.left - part.result.left) c.args.regs.now c.args.memory.now l.regs l.memory part.new.regs part.new.memory l.invariant.each part.ensures.each)
          (until_done g.S.SwapSlot.content g.S.SwapSlot.honest c.args.hart c.by_words-words.result (c.by_words-words.result - words.result.left) words.result.last part.new.regs part.new.memory words.new.regs words.new.memory words.ensures.ran all));
      started = words.ensures.harts ∙ each_harts g.S.SwapSlot.content g.S.SwapSlot.honest c.args.hart (l.left - part.result.left) l.regs l.memory part.new.regs part.new.memory part.ensures.each ∙ l.invariant.started;
      within = omega (arith, l.invariant.within, part.ensures.within, c.by_words-words.ensures.within, words.ensures.within);
    }
