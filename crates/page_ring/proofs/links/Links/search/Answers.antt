-- each cell that the walk passes is another page's
use Rattle.std.specs.Prelude.{◌<◌}
use Rattle.std.proofs.Common.{arith, sym, ap, ◌∙◌}
use Rattle.slab.specs.Slab.{slab_len}
use Rattle.page_ring.specs.Chain.{Chain, cells_of}
use Rattle.page_ring.specs.Index.{at_of}
use Rattle.page_ring.proofs.SearchLaws.{walk_starts, walk_there, walk_finds, walk_on, walk_ends}
use Rattle.page_ring.proofs.links.Links.search.Goals as goal

pub loop-passed-init : goal.loop-passed-init
loop-passed-init c = walk_starts c.self.inside.nodes c.self.inside.front c.args.key (cells_of c.self.inside.nodes c.self.inside.front) c.self.invariant

pub index-node-requires : goal.index-node-requires
index-node-requires c =
    let within : c.loop-passed._passed < slab_len c.self.inside.nodes = omega (arith, c.loop-passed-test.true, c.len-passed-end.ensures) in
    walk_there c.self.inside.nodes c.loop-passed.at c.loop-passed._passed c.args.key (cells_of c.self.inside.nodes c.self.inside.front) c.loop-passed.invariant within

pub returns-then-is_of : goal.returns-then-is_of
returns-then-is_of c =
    let within : c.loop-passed._passed < slab_len c.self.inside.nodes = omega (arith, c.loop-passed-test.true, c.len-passed-end.ensures) in
    walk_finds c.self.inside.nodes c.loop-passed.at c.args.key c.index-node.result.now c.index-node.ensures c.loop-passed._passed (cells_of c.self.inside.nodes c.self.inside.front) c.loop-passed.invariant within (sym c.is_of.ensures ∙ c.if-is_of.true)
    ∙ ap (λ (l : Chain). at_of c.args.key l.cells) c.self.view_is

pub loop-passed-preserved : goal.loop-passed-preserved
loop-passed-preserved c =
    let within : c.loop-passed._passed < slab_len c.self.inside.nodes = omega (arith, c.loop-passed-test.true, c.len-passed-end.ensures) in
    walk_on c.self.inside.nodes c.loop-passed.at c.args.key c.index-node.result.now c.index-node.ensures c.loop-passed._passed (cells_of c.self.inside.nodes c.self.inside.front) c.loop-passed.invariant within (sym c.is_of.ensures ∙ c.if-is_of.false)

pub returns : goal.returns
returns c =
    walk_ends c.self.inside.nodes c.loop-passed.at c.loop-passed._passed c.args.key (cells_of c.self.inside.nodes c.self.inside.front) c.loop-passed.invariant (omega (arith, c.loop-passed-test.false, c.loop-passed.auto._passed-end, c.len-passed-end.ensures))
    ∙ ap (λ (l : Chain). at_of c.args.key l.cells) c.self.view_is
