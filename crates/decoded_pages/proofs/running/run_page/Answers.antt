use Rattle.std.proofs.Common.{◌≡◌, ◌+◌, ◌-◌, ◌*◌, ◌/◌, slice_index_or, ap, ◌∙◌, subst, arith}
use Rattle.page_memory.specs.declared.words.Access.TheVariants.{Fetch}
use Rattle.page_memory.specs.Words.{page_number}
use Rattle.rv_exec.specs.Arithmetic.{word_sum}
use Rattle.rv_exec.specs.Registers.{with_pc}
use Rattle.decoded_pages.specs.Running.{Iterates, Steps}
use Rattle.decoded_pages.proofs.Runs.{no_step, one_more, aligned_at, next_below, next_step, to_step, to_aligned, shown_along, went_further, stayed, counted_back}
use Rattle.decoded_pages.proofs.running.run_page.Goals as goal

pub loop-left-init : goal.loop-left-init
loop-left-init g c =
    let none : 0 ≡ c.args.most - c.args.most = omega arith in
    record {
      within = omega arith;
      place = let from = c.requires.from in omega arith;
      served = c.requires.served;
      admits = c.requires.hart;
      ran = subst (λ n. Iterates (Steps g.M.ReadyMemory.memory (g.M.ReadyMemory.serves c.args.hart) (g.M.ReadyMemory.stays c.args.hart)) n (with_pc c.args.regs.now (word_sum c.args.page.now.start (c.args.from * 4)), c.args.memory.now) (with_pc c.args.regs.now (word_sum c.args.page.now.start (c.args.from * 4)), c.args.memory.now))
          none (no_step (Steps g.M.ReadyMemory.memory (g.M.ReadyMemory.serves c.args.hart) (g.M.ReadyMemory.stays c.args.hart)) (with_pc c.args.regs.now (word_sum c.args.page.now.start (c.args.from * 4)), c.args.memory.now));
    }

pub perform-requires-clause-aligned : goal.perform-requires-clause-aligned
perform-requires-clause-aligned g c =
    let l = c.loop-left in
    let decoded = c.index-instructions-place.result in
    let shows = shown_along g.M.ReadyMemory.memory (g.M.ReadyMemory.serves c.args.hart) (g.M.ReadyMemory.stays c.args.hart) c.args.page.now _ _ _ l.invariant.ran c.requires.shows in
    aligned_at c.args.page.now (g.M.ReadyMemory.memory l.memory) l.place decoded shows l.invariant.place
    (c.index-instructions-place.is ∙ ap (λ items. slice_index_or items l.place decoded) c.as_slice-instructions.ensures.value)

pub loop-left-preserved-in-Next : goal.loop-left-preserved-in-Next
loop-left-preserved-in-Next g c =
    let l = c.loop-left in
    let page = c.args.page.now in
    let decoded = c.index-instructions-place.result in
    let memory = g.M.ReadyMemory.memory in
    let serves = (g.M.ReadyMemory.serves c.args.hart) in
    let stays = (g.M.ReadyMemory.stays c.args.hart) in
    let shows = shown_along memory serves stays page _ _ _ l.invariant.ran c.requires.shows in
    let at : decoded ≡ slice_index_or page.instructions.items l.place decoded = c.index-instructions-place.is ∙ ap (λ items. slice_index_or items l.place decoded) c.as_slice-instructions.ensures.value in
    let one : c.args.most - l.left + 1 ≡ c.args.most - (l.left - 1) = omega (arith, l.invariant.within, c.loop-left-test.true) in
    let below = next_below memory page l.memory c.perform.new.memory l.place decoded l.regs c.perform.new.regs shows l.invariant.place at c.in-Next.ensures.performed in
    record {
      within = omega (arith, l.invariant.within);
      place = omega (arith, below);
      served = g.met.M.ReadyMemory.serves_on c.args.hart l.memory c.perform.new.memory Fetch (page_number page.start) c.in-Next.ensures.reached.stayed l.invariant.served;
      admits = g.met.M.ReadyMemory.admits_on c.args.hart l.memory c.perform.new.memory c.in-Next.ensures.reached.stayed l.invariant.admits;
      ran = subst (λ n. Iterates (Steps memory serves stays) n (with_pc c.args.regs.now (word_sum page.start (c.args.from * 4)), c.args.memory.now) (with_pc c.perform.new.regs (word_sum page.start ((l.place + 1) * 4)), c.perform.new.memory))
          one (one_more (Steps memory serves stays) (c.args.most - l.left) (with_pc c.args.regs.now (word_sum page.start (c.args.from * 4)), c.args.memory.now) (with_pc l.regs (word_sum page.start (l.place * 4)), l.memory) (with_pc c.perform.new.regs (word_sum page.start ((l.place + 1) * 4)), c.perform.new.memory) l.invariant.ran
          (next_step memory serves stays page l.memory c.perform.new.memory l.place decoded l.regs c.perform.new.regs shows l.invariant.place shows.decoded.small at l.invariant.served c.in-Next.ensures.performed c.in-Next.ensures.reached));
    }

pub returns-then-relative-ge4096-clause-ran : goal.returns-then-relative-ge4096-clause-ran
returns-then-relative-ge4096-clause-ran g c =
    let l = c.loop-left in
    let page = c.args.page.now in
    let decoded = c.index-instructions-place.result in
    let memory = g.M.ReadyMemory.memory in
    let serves = (g.M.ReadyMemory.serves c.args.hart) in
    let stays = (g.M.ReadyMemory.stays c.args.hart) in
    let shows = shown_along memory serves stays page _ _ _ l.invariant.ran c.requires.shows in
    let at : decoded ≡ slice_index_or page.instructions.items l.place decoded = c.index-instructions-place.is ∙ ap (λ items. slice_index_or items l.place decoded) c.as_slice-instructions.ensures.value in
    let one : c.args.most - l.left + 1 ≡ c.args.most - (l.left - 1) = omega (arith, l.invariant.within, c.loop-left-test.true) in
    went_further (Steps memory serves stays) page l.memory c.perform.new.memory l.place decoded l.regs c.perform.new.regs c.in-To.relative (c.args.most - l.left) (c.args.most - (l.left - 1)) c.add.result _ one l.invariant.ran
    (to_step memory serves stays page l.memory c.perform.new.memory l.place decoded l.regs c.perform.new.regs c.in-To.relative shows l.invariant.place shows.decoded.small at l.invariant.served c.in-To.ensures.performed c.in-To.ensures.reached) c.add.ensures

pub loop-left-preserved : goal.loop-left-preserved
loop-left-preserved g c =
    let l = c.loop-left in
    let page = c.args.page.now in
    let decoded = c.index-instructions-place.result in
    let memory = g.M.ReadyMemory.memory in
    let serves = (g.M.ReadyMemory.serves c.args.hart) in
    let stays = (g.M.ReadyMemory.stays c.args.hart) in
    let shows = shown_along memory serves stays page _ _ _ l.invariant.ran c.requires.shows in
    let at : decoded ≡ slice_index_or page.instructions.items l.place decoded = c.index-instructions-place.is ∙ ap (λ items. slice_index_or items l.place decoded) c.as_slice-instructions.ensures.value in
    let one : c.args.most - l.left + 1 ≡ c.args.most - (l.left - 1) = omega (arith, l.invariant.within, c.loop-left-test.true) in
    let even = to_aligned memory page l.memory c.perform.new.memory l.place decoded l.regs c.perform.new.regs c.in-To.relative shows l.invariant.place at c.in-To.ensures.performed in
    record {
      within = omega (arith, l.invariant.within);
      place = omega (arith, c.if-relative-ge4096.false);
      served = g.met.M.ReadyMemory.serves_on c.args.hart l.memory c.perform.new.memory Fetch (page_number page.start) c.in-To.ensures.reached.stayed l.invariant.served;
      admits = g.met.M.ReadyMemory.admits_on c.args.hart l.memory c.perform.new.memory c.in-To.ensures.reached.stayed l.invariant.admits;
      ran = went_further (Steps memory serves stays) page l.memory c.perform.new.memory l.place decoded l.regs c.perform.new.regs c.in-To.relative (c.args.most - l.left) (c.args.most - (l.left - 1)) (word_sum page.start (c.in-To.relative / 4 * 4)) _ one l.invariant.ran
          (to_step memory serves stays page l.memory c.perform.new.memory l.place decoded l.regs c.perform.new.regs c.in-To.relative shows l.invariant.place shows.decoded.small at l.invariant.served c.in-To.ensures.performed c.in-To.ensures.reached)
          (ap (word_sum page.start) (counted_back c.in-To.relative even));
    }

pub returns-in-ByWord-clause-ran : goal.returns-in-ByWord-clause-ran
returns-in-ByWord-clause-ran g c =
    let l = c.loop-left in
    let page = c.args.page.now in
    let memory = g.M.ReadyMemory.memory in
    let serves = (g.M.ReadyMemory.serves c.args.hart) in
    let stays = (g.M.ReadyMemory.stays c.args.hart) in
    stayed (Steps memory serves stays) page l.memory c.perform.new.memory l.place l.regs c.perform.new.regs (c.args.most - l.left) c.add-in-ByWord.result _ l.invariant.ran
    c.in-ByWord.ensures.performed.registers_stay c.in-ByWord.ensures.kept c.add-in-ByWord.ensures
