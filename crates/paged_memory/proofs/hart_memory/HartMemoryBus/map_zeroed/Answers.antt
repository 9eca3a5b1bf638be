use Rattle.std.proofs.Common.{refl}
use Rattle.paged_memory.proofs.access_laws.HartMemoryLaws.{access_grown}
use Rattle.paged_memory.proofs.access_laws.ToldLaws.{told_kept}
use Rattle.paged_memory.proofs.GrowthLaws.{kept_grown, stays_grown}
use Rattle.paged_memory.proofs.hart_memory.HartMemoryBus.map_zeroed.Goals as goal

pub returns-clause-kept : goal.returns-clause-kept
returns-clause-kept g c = (
  refl {a = c.args.self.now.hart},
  refl {a = c.args.self.now.memory.ghost_name},
  told_kept c.args.self.now.hart g.O.Opening.opening c.args.self.now.memory.now c.map_zeroed.new.self (access_grown c.args.self.now.hart c.args.self.now.memory.now c.map_zeroed.new.self c.map_zeroed.ensures.process
      (kept_grown c.map_zeroed.result c.args.self.now.memory.now c.map_zeroed.new.self c.args.first c.args.count c.map_zeroed.ensures.ok c.map_zeroed.ensures.err)
      (stays_grown c.map_zeroed.result c.args.self.now.memory.now c.map_zeroed.new.self c.args.first c.args.count c.map_zeroed.ensures.ok c.map_zeroed.ensures.err)
      c.map_zeroed.ensures.tables c.map_zeroed.ensures.caches),
)
