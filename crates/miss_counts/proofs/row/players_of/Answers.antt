use Rattle.miss_counts.proofs.ZippedLaws.{zip_more}
use Rattle.miss_counts.proofs.row.players_of.Goals as goal

pub policies-preserved : goal.policies-preserved
policies-preserved c = zip_more _ c.policies.at c.args.policies.now _ c.policies.players.items c.push.new.self.items _ c.policies-test.true c.policies.invariant c.in_ok-named_player.ensures c.in_ok-push.ensures.items
