use Rattle.std.proofs.Common.{◌∙◌}
use Rattle.std.specs.HashMap.{get}
use Rattle.page_policies.specs.Strings.{is_page}
use Rattle.textbook_policies.proofs.RankLaws.{rank_left, removed, gone_out}
use Rattle.textbook_policies.proofs.ranking.let_go.Goals as goal

pub returns-clause-ranking : goal.returns-clause-ranking
returns-clause-ranking c = rank_left c.args.rank c.args.page c.args.order.now.keys c.remove.new.self.keys (λ q. get is_page c.args.ranks.now q) (λ q. get is_page c.forget.new.ranks q)
    c.requires.there c.remove.ensures.keys c.requires.ranking c.forget.ensures

pub returns-clause-others : goal.returns-clause-others
returns-clause-others c = c.remove.ensures.keys ∙ removed c.args.rank c.args.page c.args.order.now.keys c.requires.there

pub returns-clause-gone : goal.returns-clause-gone
returns-clause-gone c = gone_out c.args.rank c.args.page c.args.order.now.keys c.remove.new.self.keys (λ q. get is_page c.args.ranks.now q) c.requires.ranking c.requires.there c.remove.ensures.keys
