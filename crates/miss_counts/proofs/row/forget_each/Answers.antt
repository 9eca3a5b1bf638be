use Rattle.std.proofs.Common.{refl}
use Rattle.miss_counts.proofs.ZippedLaws.{below_none, below_more, below_lent}
use Rattle.miss_counts.proofs.row.forget_each.Goals as goal

pub players-init : goal.players-init
players-init g c = below_none _ c.deref_mut-named-items.result.now

pub players-preserved : goal.players-preserved
players-preserved g c = below_more _ c.players.named-index _ c.players.named-items c.named-item.result _ c.players-test.true c.players.invariant (refl, c.forget_one.ensures)

pub returns : goal.returns
returns g c = below_lent _ c.players.named-index c.args.players.now.len c.args.players.now.items _ c.players.named-items c.deref_mut-named-items.ensures.value c.args.players.now.ok.0 c.players-test.false c.players.invariant
