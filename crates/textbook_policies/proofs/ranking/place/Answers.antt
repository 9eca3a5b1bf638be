use Rattle.std.specs.HashMap.{get}
use Rattle.page_policies.specs.Strings.{is_page}
use Rattle.textbook_policies.proofs.RankLaws.{rank_came}
use Rattle.textbook_policies.proofs.ranking.place.Goals as goal

pub returns-clause-ranking : goal.returns-clause-ranking
returns-clause-ranking c = rank_came c.args.rank c.args.page c.args.order.now.keys c.insert.new.self.keys (λ q. get is_page c.args.ranks.now q) (λ q. get is_page c.note.new.ranks q)
    c.requires.of c.requires.new c.in-Ok-insert.ensures.keys c.requires.ranking c.in-Ok.ensures.noted
