use Rattle.std.proofs.Common.{◌≡◌, ◌+◌, ◌≤◌, drop}
use Rattle.std.specs.HashSet.{contains}
use Rattle.page_policies.specs.Strings.{is_page}
use Rattle.miss_counts.specs.StringPages.{pages_of}
use Rattle.whole_strings.specs.PageCounts.{first_uses, page_count}
use Rattle.miss_counts.proofs.page_counts.count_pages.Given as goal

-- what is counted and what is to come make the whole
abbrev pub invariant-references : goal.invariant-references
invariant-references l = record {
  whole : l.count + first_uses (contains is_page l.seen) (pages_of (drop l.reference-index l.string)) ≡ page_count (pages_of l.string);
  few : l.count ≤ l.reference-index;
}
