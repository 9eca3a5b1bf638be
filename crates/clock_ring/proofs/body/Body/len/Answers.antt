use Rattle.std.proofs.Common.{arith, sym, ◌∙◌}
use Rattle.clock_ring.proofs.CountedLaws.{entries_length}
use Rattle.clock_ring.proofs.body.Body.len.Goals as goal

pub returns-clause-len : goal.returns-clause-len
returns-clause-len c = c.len.ensures.len ∙ sym (entries_length c.args.self.now.ring.cells)

pub returns-clause-few : goal.returns-clause-few
returns-clause-few c = omega (arith, c.len.ensures.len, c.args.self.now.kept.within, c.args.self.now.most)
