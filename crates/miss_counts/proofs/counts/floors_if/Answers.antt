-- The counts are told where they are asked for, and else none.
use Rattle.std.proofs.Common.{◌∙◌, List, ℕ, Some, map, ap}
use Rattle.clock_policy.specs.declared.key.Key.{Key}
use Rattle.page_policies.specs.Optimal.{optimal_misses}
use Rattle.page_policies.specs.declared.frames.Frames.{Frames}
use Rattle.miss_counts.specs.StringPages.{pages_of}
use Rattle.miss_counts.proofs.Floors.{floors_all, floors_none}
use Rattle.miss_counts.proofs.counts.floors_if.Goals as goal

pub returns-then-is_wanted : goal.returns-then-is_wanted
returns-then-is_wanted c =
    floors_all c.args.is_wanted (pages_of c.args.string.now) c.args.frames.now c.in_ok-counts.counts.items c.in_ok-floors.floors.items c.if-is_wanted.true
    (c.in_ok-counts.ensures ∙ ap (λ (l : List Key). map (λ (f : Frames). optimal_misses f.number l) c.args.frames.now) (c.as_slice.ensures.value ∙ c.in_ok-pages.ensures))
    (c.in_ok-floors.ensures ∙ ap (λ (l : List ℕ). map (λ n. Some n) l) c.as_slice-then-is_wanted.ensures.value)

pub returns : goal.returns
returns c = floors_none c.args.is_wanted (pages_of c.args.string.now) c.args.frames.now c.in_ok-floors-2.floors.items c.if-is_wanted.false c.in_ok-floors-2.ensures
