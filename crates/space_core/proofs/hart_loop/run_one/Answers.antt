-- What the bus was told in its turn is kept.
use Rattle.std.proofs.Common.{rules}
use Rattle.rv_exec.specs.Registers.{with_pc}
use Rattle.paged_memory.proofs.access_laws.ToldLaws.{kept_told}
use Rattle.space_core.proofs.OneRun.{left_by_bus}
use Rattle.space_core.proofs.hart_loop.run_one.Goals as goal

pub returns : goal.returns
returns g c = record {
  ran = record {
    came = search rules;
    leaves =
        let told = left_by_bus g.S.SwapSlot.content c.args.hart g.O.Opening.opening c.new-bus.result.hart c.execute_at-outcome.new.bus.hart c.args.memory.now c.new-bus.result.memory.now c.execute_at-outcome.new.bus.memory.now
        (with_pc c.args.regs.now c.args.pc.now) c.execute_at-outcome.result c.new-bus.ensures.hart c.execute_at-outcome.ensures.kept.0 c.new-bus.ensures.memory c.requires.opening c.execute_at-outcome.ensures.leaves in
        search (rules, told);
    kept = search (rules, kept_told);
    coheres = search rules;
  };
}
