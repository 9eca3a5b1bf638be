use Rattle.std.proofs.Common.{sym, ◌∙◌}
use Rattle.paged_memory.proofs.move_laws.PagedLaws.{page_at-nowhere}
use Rattle.paged_memory.proofs.placing.place_there.Goals as goal

pub unreachable-requires : goal.unreachable-requires
unreachable-requires g c = c.requires.there (page_at-nowhere c.args.pages.now c.args.vpn (sym c.place.ensures.place ∙ c.in-None.is))
