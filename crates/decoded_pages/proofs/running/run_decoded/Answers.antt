use Rattle.std.proofs.Common.{◌≡◌, ◌+◌, ◌-◌, subst, arith}
use Rattle.rv_exec.specs.Registers.{with_pc}
use Rattle.decoded_pages.specs.Running.{Iterates, Steps}
use Rattle.decoded_pages.proofs.Runs.{no_step, all_shown_along, held_along, page_ran}
use Rattle.decoded_pages.proofs.running.run_decoded.Goals as goal

pub loop-left-init : goal.loop-left-init
loop-left-init g c =
    let none : 0 ≡ c.args.most - c.args.most = omega arith in
    record {
      within = omega arith;
      admits = c.requires.hart;
      ran = subst (λ n. Iterates (Steps g.M.ReadyMemory.memory (g.M.ReadyMemory.serves c.args.hart) (g.M.ReadyMemory.stays c.args.hart)) n (with_pc c.args.regs.now c.args.pc, c.args.memory.now) (with_pc c.args.regs.now c.args.pc, c.args.memory.now))
          none (no_step (Steps g.M.ReadyMemory.memory (g.M.ReadyMemory.serves c.args.hart) (g.M.ReadyMemory.stays c.args.hart)) (with_pc c.args.regs.now c.args.pc, c.args.memory.now));
    }

pub run_in_page-ran-requires-clause-shows : goal.run_in_page-ran-requires-clause-shows
run_in_page-ran-requires-clause-shows g c =
    c.in-Some.ensures.shows (g.M.ReadyMemory.memory c.loop-left.memory) (all_shown_along g.M.ReadyMemory.memory (g.M.ReadyMemory.serves c.args.hart) (g.M.ReadyMemory.stays c.args.hart) c.args.pages.now _ _ _ c.loop-left.invariant.ran c.requires.shows)

pub returns-then-ran-left-clause-ran : goal.returns-then-ran-left-clause-ran
returns-then-ran-left-clause-ran g c =
    let l = c.loop-left in
    let run = c.run_in_page-ran in
    let sum : c.args.most - l.left + (l.left - run.result.left) ≡ c.args.most - run.result.left = omega (arith, l.invariant.within, run.ensures.within) in
    page_ran (Steps g.M.ReadyMemory.memory (g.M.ReadyMemory.serves c.args.hart) (g.M.ReadyMemory.stays c.args.hart)) (with_pc c.args.regs.now c.args.pc, c.args.memory.now) l.regs run.new.regs l.memory run.new.memory (c.args.most - l.left) (l.left - run.result.left) (c.args.most - run.result.left) l.pc run.result.pc c.in-Some.page.now.start
    (let fits = l.auto.pc-fits in omega (arith, fits)) c.if-pc-ne0.false c.in-Some.ensures.start sum l.invariant.ran run.ensures.ran

pub loop-left-preserved : goal.loop-left-preserved
loop-left-preserved g c =
    let l = c.loop-left in
    let run = c.run_in_page-ran in
    let sum : c.args.most - l.left + (l.left - run.result.left) ≡ c.args.most - run.result.left = omega (arith, l.invariant.within, run.ensures.within) in
    record {
      within = omega (arith, l.invariant.within, run.ensures.within);
      admits = held_along g.M.ReadyMemory.memory (g.M.ReadyMemory.serves c.args.hart) (g.M.ReadyMemory.stays c.args.hart) (g.M.ReadyMemory.admits c.args.hart) (λ before after. g.met.M.ReadyMemory.admits_on c.args.hart before after) _ _ _ run.ensures.ran l.invariant.admits;
      ran = page_ran (Steps g.M.ReadyMemory.memory (g.M.ReadyMemory.serves c.args.hart) (g.M.ReadyMemory.stays c.args.hart)) (with_pc c.args.regs.now c.args.pc, c.args.memory.now) l.regs run.new.regs l.memory run.new.memory (c.args.most - l.left) (l.left - run.result.left) (c.args.most - run.result.left) l.pc run.result.pc c.in-Some.page.now.start
          (let fits = l.auto.pc-fits in omega (arith, fits)) c.if-pc-ne0.false c.in-Some.ensures.start sum l.invariant.ran run.ensures.ran;
    }
