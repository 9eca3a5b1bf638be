use Rattle.std.specs.HashMap.{get}
use Rattle.page_policies.specs.Strings.{is_page}
use Rattle.whole_strings.proofs.LastPlaceLaws.{Places}
use Rattle.whole_strings.proofs.lru_depths.count_hits.Given as goal

abbrev pub invariant-references : goal.invariant-references
invariant-references l = Places l.seen l.hits.items (λ q. get is_page l.ends q) l.places l.string
