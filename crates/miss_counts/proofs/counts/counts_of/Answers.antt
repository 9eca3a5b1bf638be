-- The optimum is counted where it is asked for, and the string is counted by its misses.
use Rattle.std.proofs.Common.{ℕ, List, Option, IfOk, length, subst}
use Rattle.miss_counts.specs.Counted.{IsCounted, IsRow, asked}
use Rattle.miss_counts.specs.StringPages.{pages_of}
use Rattle.page_policies.specs.Optimal.{optimal_misses}
use Rattle.miss_counts.specs.declared.policy_name.PolicyName.{PolicyName}
use Rattle.miss_counts.proofs.counts.counts_of.Goals as goal

pub returns : goal.returns
unfolding IsRow
returns c =
    subst (λ (ps : List PolicyName). IfOk c.counts_by.result (IsCounted (λ misses. misses c.args.string.now) ps (length c.args.string.now) (asked c.args.wanted.now.optimum (optimal_misses c.args.frames.number (pages_of c.args.string.now))) c.args.frames)) c.as_slice.ensures.value
    (subst (λ (o : Option ℕ). IfOk c.counts_by.result (IsCounted (λ misses. misses c.args.string.now) c.as_slice.result.now (length c.args.string.now) o c.args.frames)) c.requires c.counts_by.ensures)
