use Rattle.std.proofs.Common.{arith}
use Rattle.clock_ring.proofs.StepLaws.{few_counted}
use Rattle.clock_ring.proofs.handed.BodyHandedList.resident_count.Goals as goal

pub overflow_add-result : goal.overflow_add-result
overflow_add-result c = let b = c.args.self.now in omega (arith, few_counted b.ring.cells b.cold_hand b.test_hand b.frames b.counts b.most b.kept)
