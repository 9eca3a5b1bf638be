use Rattle.std.proofs.Common.{◌≡◌, take}
use Rattle.miss_counts.specs.StringPages.{pages_of}
use Rattle.miss_counts.proofs.page_counts.pages_in.Given as goal

abbrev pub invariant-references : goal.invariant-references
invariant-references l = l.pages.items ≡ pages_of (take l.reference-index l.string)
