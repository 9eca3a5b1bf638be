use Rattle.std.proofs.Common.{arith}
use Rattle.std.proofs.lemmas.Grind.{common_steps}
use Rattle.space_core.proofs.FreshPages.{image_unmapped, one_more_mapped, opening_mapped}
use Rattle.space_core.proofs.opening.opening_memory.Goals as goal

pub map_page-requires-clause-absent : goal.map_page-requires-clause-absent
map_page-requires-clause-absent g c =
    image_unmapped c.args.process c.args.pages.now c.requires c.loop-listed.listed-index c.listed-item.result c.loop-listed.memory c.loop-listed-test.true c.listed-item.is c.loop-listed.invariant.maps

pub loop-listed-preserved : goal.loop-listed-preserved
loop-listed-preserved g c = record {
  maps = one_more_mapped c.args.process c.args.pages.now c.requires c.loop-listed.listed-index c.listed-item.result c.in_ok-page.page c.loop-listed.memory c.map_page.new.self
      c.loop-listed-test.true c.listed-item.is c.in_ok-page.ensures c.in_ok-map_page.ensures.ok c.loop-listed.invariant.maps;
}

pub returns-clause-pages : goal.returns-clause-pages
returns-clause-pages g c =
    opening_mapped c.args.process c.args.pages.now c.requires c.loop-listed.listed-index c.loop-listed.memory c.map_zeroed.new.self c.add_hart.new.self
    (grind (arith, common_steps)) c.loop-listed.invariant.maps c.in_ok-map_zeroed.ensures.adds c.add_hart.ensures
