use Rattle.std.proofs.Common.{◌≡◌, ◌+◌, ◌≤◌, [], drop}
use Rattle.std.specs.HashSet.{contains}
use Rattle.page_policies.specs.Strings.{is_page}
use Rattle.miss_counts.specs.WriteBacks.{written_from, write_backs}
use Rattle.miss_counts.proofs.WriteBackLaws.{before, Follows}
use Rattle.miss_counts.proofs.dirty_pages.write_backs.Given as goal

-- what is counted and what is to come make the whole
abbrev pub invariant-references : goal.invariant-references
invariant-references g l = record {
  follows : Follows (g.C.Counting.all l.initial.player) (before l.reference-index l.string) (g.C.Counting.all l.player);
  whole : l.count + written_from (g.C.Counting.all l.initial.player) (before l.reference-index l.string) (contains is_page l.dirty) (drop l.reference-index l.string)
      ≡ write_backs (g.C.Counting.all l.initial.player) l.string;
  few : l.count ≤ l.reference-index;
  short : g.C.Counting.all l.player [] ≤ l.reference-index;
}
