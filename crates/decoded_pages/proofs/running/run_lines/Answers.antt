use Rattle.std.proofs.Common.{◌≡◌, ◌+◌, ◌-◌, ◌*◌, ◌/◌, slice_index_or, ap, ◌∙◌, subst, arith}
use Rattle.page_memory.specs.declared.words.Access.TheVariants.{Fetch}
use Rattle.page_memory.specs.Words.{page_number}
use Rattle.rv_exec.specs.Arithmetic.{word_sum}
use Rattle.rv_exec.specs.Registers.{with_pc}
use Rattle.decoded_pages.specs.Running.{Iterates, Steps}
use Rattle.decoded_pages.proofs.Runs.{no_step, one_more, aligned_at, next_step, to_step, to_aligned, shown_along, went_further, counted_back, next_below, next_in_line, to_in_line}
use Rattle.decoded_pages.proofs.running.run_lines.Goals as goal

pub loop-place-init : goal.loop-place-init
loop-place-init g c =
    let none : 0 ≡ c.args.most - (c.args.from + c.args.most - c.args.from) = omega arith in
    record {
      place = (let from = c.requires.from in omega (arith, from));
      within = omega arith;
      most = omega arith;
      line = (let line = c.requires.line in omega (arith, line));
      served = c.requires.served;
      admits = c.requires.hart;
      ran = subst (λ n. Iterates (Steps g.M.ReadyMemory.memory (g.M.ReadyMemory.serves c.args.hart) (g.M.ReadyMemory.stays c.args.hart)) n (with_pc c.args.regs.now (word_sum c.args.page.now.start (c.args.from * 4)), c.args.memory.now) (with_pc c.args.regs.now (word_sum c.args.page.now.start (c.args.from * 4)), c.args.memory.now))
          none (no_step (Steps g.M.ReadyMemory.memory (g.M.ReadyMemory.serves c.args.hart) (g.M.ReadyMemory.stays c.args.hart)) (with_pc c.args.regs.now (word_sum c.args.page.now.start (c.args.from * 4)), c.args.memory.now));
    }

pub perform-requires-clause-aligned : goal.perform-requires-clause-aligned
perform-requires-clause-aligned g c =
    let l = c.loop-place in
    let decoded = c.index-instructions-place.result in
    let shows = shown_along g.M.ReadyMemory.memory (g.M.ReadyMemory.serves c.args.hart) (g.M.ReadyMemory.stays c.args.hart) c.args.page.now _ _ _ l.invariant.ran c.requires.shows in
    aligned_at c.args.page.now (g.M.ReadyMemory.memory l.memory) l.place decoded shows l.invariant.place
    (c.index-instructions-place.is ∙ ap (λ items. slice_index_or items l.place decoded) c.as_slice-instructions.ensures.value)

pub loop-place-smaller-in-Next : goal.loop-place-smaller-in-Next
loop-place-smaller-in-Next g c =
    let l = c.loop-place in
    let page = c.args.page.now in
    let decoded = c.index-instructions-place.result in
    let memory = g.M.ReadyMemory.memory in
    let serves = (g.M.ReadyMemory.serves c.args.hart) in
    let stays = (g.M.ReadyMemory.stays c.args.hart) in
    let shows = shown_along memory serves stays page _ _ _ l.invariant.ran c.requires.shows in
    let at : decoded ≡ slice_index_or page.instructions.items l.place decoded = c.index-instructions-place.is ∙ ap (λ items. slice_index_or items l.place decoded) c.as_slice-instructions.ensures.value in
    let both = next_in_line memory page l.memory c.perform.new.memory l.place decoded l.regs c.perform.new.regs l.limit shows l.invariant.place at c.in-Next.ensures.performed l.invariant.line in
    let less = both.0 in
    omega (arith, less)

pub loop-place-preserved-in-Next : goal.loop-place-preserved-in-Next
loop-place-preserved-in-Next g c =
    let l = c.loop-place in
    let page = c.args.page.now in
    let decoded = c.index-instructions-place.result in
    let memory = g.M.ReadyMemory.memory in
    let serves = (g.M.ReadyMemory.serves c.args.hart) in
    let stays = (g.M.ReadyMemory.stays c.args.hart) in
    let shows = shown_along memory serves stays page _ _ _ l.invariant.ran c.requires.shows in
    let at : decoded ≡ slice_index_or page.instructions.items l.place decoded = c.index-instructions-place.is ∙ ap (λ items. slice_index_or items l.place decoded) c.as_slice-instructions.ensures.value in
    let both = next_in_line memory page l.memory c.perform.new.memory l.place decoded l.regs c.perform.new.regs l.limit shows l.invariant.place at c.in-Next.ensures.performed l.invariant.line in
    let less = both.0 in
    let below = next_below memory page l.memory c.perform.new.memory l.place decoded l.regs c.perform.new.regs shows l.invariant.place at c.in-Next.ensures.performed in
    let one : c.args.most - (l.limit - l.place) + 1 ≡ c.args.most - (l.limit - (l.place + 1)) = omega (arith, less, l.invariant.most) in
    record {
      place = omega (arith, below);
      within = omega (arith, less);
      most = omega (arith, l.invariant.most);
      line = both.1;
      served = g.met.M.ReadyMemory.serves_on c.args.hart l.memory c.perform.new.memory Fetch (page_number page.start) c.in-Next.ensures.reached.stayed l.invariant.served;
      admits = g.met.M.ReadyMemory.admits_on c.args.hart l.memory c.perform.new.memory c.in-Next.ensures.reached.stayed l.invariant.admits;
      ran = subst (λ n. Iterates (Steps memory serves stays) n (with_pc c.args.regs.now (word_sum page.start (c.args.from * 4)), c.args.memory.now) (with_pc c.perform.new.regs (word_sum page.start ((l.place + 1) * 4)), c.perform.new.memory))
          one (one_more (Steps memory serves stays) (c.args.most - (l.limit - l.place)) (with_pc c.args.regs.now (word_sum page.start (c.args.from * 4)), c.args.memory.now) (with_pc l.regs (word_sum page.start (l.place * 4)), l.memory) (with_pc c.perform.new.regs (word_sum page.start ((l.place + 1) * 4)), c.perform.new.memory) l.invariant.ran
          (next_step memory serves stays page l.memory c.perform.new.memory l.place decoded l.regs c.perform.new.regs shows l.invariant.place shows.decoded.small at l.invariant.served c.in-Next.ensures.performed c.in-Next.ensures.reached));
    }

pub overflow_sub-left-in-To : goal.overflow_sub-left-in-To
overflow_sub-left-in-To g c =
    let l = c.loop-place in
    let page = c.args.page.now in
    let decoded = c.index-instructions-place.result in
    let memory = g.M.ReadyMemory.memory in
    let serves = (g.M.ReadyMemory.serves c.args.hart) in
    let stays = (g.M.ReadyMemory.stays c.args.hart) in
    let shows = shown_along memory serves stays page _ _ _ l.invariant.ran c.requires.shows in
    let at : decoded ≡ slice_index_or page.instructions.items l.place decoded = c.index-instructions-place.is ∙ ap (λ items. slice_index_or items l.place decoded) c.as_slice-instructions.ensures.value in
    let less = to_in_line memory page l.memory c.perform.new.memory l.place decoded l.regs c.perform.new.regs l.limit c.in-To.relative shows l.invariant.place at c.in-To.ensures.performed l.invariant.line in
    omega (arith, less)

pub returns-then-relative-ge4096-clause-ran : goal.returns-then-relative-ge4096-clause-ran
returns-then-relative-ge4096-clause-ran g c =
    let l = c.loop-place in
    let page = c.args.page.now in
    let decoded = c.index-instructions-place.result in
    let memory = g.M.ReadyMemory.memory in
    let serves = (g.M.ReadyMemory.serves c.args.hart) in
    let stays = (g.M.ReadyMemory.stays c.args.hart) in
    let shows = shown_along memory serves stays page _ _ _ l.invariant.ran c.requires.shows in
    let at : decoded ≡ slice_index_or page.instructions.items l.place decoded = c.index-instructions-place.is ∙ ap (λ items. slice_index_or items l.place decoded) c.as_slice-instructions.ensures.value in
    let less = to_in_line memory page l.memory c.perform.new.memory l.place decoded l.regs c.perform.new.regs l.limit c.in-To.relative shows l.invariant.place at c.in-To.ensures.performed l.invariant.line in
    let one : c.args.most - (l.limit - l.place) + 1 ≡ c.args.most - (l.limit - l.place - 1) = omega (arith, less, l.invariant.most) in
    went_further (Steps memory serves stays) page l.memory c.perform.new.memory l.place decoded l.regs c.perform.new.regs c.in-To.relative (c.args.most - (l.limit - l.place)) (c.args.most - (l.limit - l.place - 1)) c.add.result _ one l.invariant.ran
    (to_step memory serves stays page l.memory c.perform.new.memory l.place decoded l.regs c.perform.new.regs c.in-To.relative shows l.invariant.place shows.decoded.small at l.invariant.served c.in-To.ensures.performed c.in-To.ensures.reached) c.add.ensures

pub returns-then-limit-ends-clause-ran : goal.returns-then-limit-ends-clause-ran
returns-then-limit-ends-clause-ran g c =
    let l = c.loop-place in
    let page = c.args.page.now in
    let decoded = c.index-instructions-place.result in
    let memory = g.M.ReadyMemory.memory in
    let serves = (g.M.ReadyMemory.serves c.args.hart) in
    let stays = (g.M.ReadyMemory.stays c.args.hart) in
    let shows = shown_along memory serves stays page _ _ _ l.invariant.ran c.requires.shows in
    let at : decoded ≡ slice_index_or page.instructions.items l.place decoded = c.index-instructions-place.is ∙ ap (λ items. slice_index_or items l.place decoded) c.as_slice-instructions.ensures.value in
    let less = to_in_line memory page l.memory c.perform.new.memory l.place decoded l.regs c.perform.new.regs l.limit c.in-To.relative shows l.invariant.place at c.in-To.ensures.performed l.invariant.line in
    let one : c.args.most - (l.limit - l.place) + 1 ≡ c.args.most - (l.limit - l.place - 1) = omega (arith, less, l.invariant.most) in
    went_further (Steps memory serves stays) page l.memory c.perform.new.memory l.place decoded l.regs c.perform.new.regs c.in-To.relative (c.args.most - (l.limit - l.place)) (c.args.most - (l.limit - l.place - 1)) c.add-then-limit-ends.result _ one l.invariant.ran
    (to_step memory serves stays page l.memory c.perform.new.memory l.place decoded l.regs c.perform.new.regs c.in-To.relative shows l.invariant.place shows.decoded.small at l.invariant.served c.in-To.ensures.performed c.in-To.ensures.reached) c.add-then-limit-ends.ensures

pub loop-place-smaller : goal.loop-place-smaller
loop-place-smaller g c =
    let l = c.loop-place in
    let page = c.args.page.now in
    let decoded = c.index-instructions-place.result in
    let memory = g.M.ReadyMemory.memory in
    let serves = (g.M.ReadyMemory.serves c.args.hart) in
    let stays = (g.M.ReadyMemory.stays c.args.hart) in
    let shows = shown_along memory serves stays page _ _ _ l.invariant.ran c.requires.shows in
    let at : decoded ≡ slice_index_or page.instructions.items l.place decoded = c.index-instructions-place.is ∙ ap (λ items. slice_index_or items l.place decoded) c.as_slice-instructions.ensures.value in
    let less = to_in_line memory page l.memory c.perform.new.memory l.place decoded l.regs c.perform.new.regs l.limit c.in-To.relative shows l.invariant.place at c.in-To.ensures.performed l.invariant.line in
    omega (arith, less)

pub loop-place-preserved : goal.loop-place-preserved
loop-place-preserved g c =
    let l = c.loop-place in
    let page = c.args.page.now in
    let decoded = c.index-instructions-place.result in
    let memory = g.M.ReadyMemory.memory in
    let serves = (g.M.ReadyMemory.serves c.args.hart) in
    let stays = (g.M.ReadyMemory.stays c.args.hart) in
    let shows = shown_along memory serves stays page _ _ _ l.invariant.ran c.requires.shows in
    let at : decoded ≡ slice_index_or page.instructions.items l.place decoded = c.index-instructions-place.is ∙ ap (λ items. slice_index_or items l.place decoded) c.as_slice-instructions.ensures.value in
    let less = to_in_line memory page l.memory c.perform.new.memory l.place decoded l.regs c.perform.new.regs l.limit c.in-To.relative shows l.invariant.place at c.in-To.ensures.performed l.invariant.line in
    let even = to_aligned memory page l.memory c.perform.new.memory l.place decoded l.regs c.perform.new.regs c.in-To.relative shows l.invariant.place at c.in-To.ensures.performed in
    let small = c.if-relative-ge4096.false in
    let fits = c.if-limit-ends.false in
    let end : slice_index_or c.as_slice-ends.result.now (c.in-To.relative / 4) 0 ≡ slice_index_or page.ends.items (c.in-To.relative / 4) 0 = ap (λ items. slice_index_or items (c.in-To.relative / 4) 0) c.as_slice-ends.ensures.value in
    let one : c.args.most - (l.limit - l.place) + 1 ≡ c.args.most - (c.in-To.relative / 4 + (l.limit - l.place - 1) - c.in-To.relative / 4) = omega (arith, less, l.invariant.most) in
    record {
      place = omega (arith, small);
      within = omega arith;
      most = omega (arith, l.invariant.most);
      line = omega (arith, end, fits);
      served = g.met.M.ReadyMemory.serves_on c.args.hart l.memory c.perform.new.memory Fetch (page_number page.start) c.in-To.ensures.reached.stayed l.invariant.served;
      admits = g.met.M.ReadyMemory.admits_on c.args.hart l.memory c.perform.new.memory c.in-To.ensures.reached.stayed l.invariant.admits;
      ran = went_further (Steps memory serves stays) page l.memory c.perform.new.memory l.place decoded l.regs c.perform.new.regs c.in-To.relative (c.args.most - (l.limit - l.place)) (c.args.most - (c.in-To.relative / 4 + (l.limit - l.place - 1) - c.in-To.relative / 4)) (word_sum page.start (c.in-To.relative / 4 * 4)) _ one l.invariant.ran
          (to_step memory serves stays page l.memory c.perform.new.memory l.place decoded l.regs c.perform.new.regs c.in-To.relative shows l.invariant.place shows.decoded.small at l.invariant.served c.in-To.ensures.performed c.in-To.ensures.reached)
          (ap (word_sum page.start) (counted_back c.in-To.relative even));
    }
