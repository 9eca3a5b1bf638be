use Rattle.std.proofs.Common.{◌≡◌, ℕ, List, IfOk, map, subst, sym}
use Rattle.page_policies.specs.declared.frames.Frames.{Frames}
use Rattle.miss_counts.specs.StringPages.{pages_of}
use Rattle.whole_strings.specs.PageCounts.{page_count}
use Rattle.miss_counts.proofs.Sizes.{without_parts}
use Rattle.miss_counts.proofs.table_size.frames_for_string.Goals as goal

pub returns-then-not-has_part : goal.returns-then-not-has_part
returns-then-not-has_part c =
    subst (λ (l : List ℕ). IfOk c.frames_for.result (λ all. map (λ (f : Frames). f.number) all.items ≡ l)) (without_parts 0 (page_count (pages_of c.args.string.now)) c.args.sizes.now (sym c.if-not-has_part.ensures))
    c.frames_for.ensures
