-- Tables of a string whose first references are skipped, or none.
use Rattle.std.specs.Prelude.{◌≡◌, ℕ, ◌+◌, ◌-◌, Bool, false, List, [], ◌∷◌, ◌++◌, length, map, refl}
use Rattle.std.specs.List.{AllZip}
use Rattle.std.proofs.Common.{arith, ap, sym, ◌∙◌}
use Rattle.std.proofs.lemmas.List.{length-append}
use Rattle.guest_strings.specs.declared.reference.Reference.{Reference}
use Rattle.page_policies.specs.Optimal.{optimal_misses}
use Rattle.page_policies.specs.declared.frames.Frames.{Frames}
use Rattle.miss_counts.specs.Counted.{IsRow, asked, count_of, misses_of, serves}
use Rattle.miss_counts.specs.Replayed.{HavePlayed, IsReplayed, RowsTell, TellsPlayed, missed_behind}
use Rattle.miss_counts.specs.StringPages.{pages_of}
use Rattle.miss_counts.specs.declared.counts.PolicyCount.{PolicyCount}
use Rattle.miss_counts.specs.declared.counts.PolicyCounts.{PolicyCounts}
use Rattle.miss_counts.specs.declared.policy_name.PolicyName.{PolicyName}
use Rattle.miss_counts.specs.declared.policy_set.PolicySet.{PolicySet}
use Rattle.miss_counts.specs.declared.rows.Rows.{Rows}
use Rattle.miss_counts.proofs.RowLaws.{nothing_missed}

each : {A B : Type 0} (P Q : A → B → Type 0) → ((a : A) (b : B) → P a b → Q a b) → (xs : List A) (ys : List B) → AllZip P xs ys → AllZip Q xs ys
each P Q step [] [] p = tt
each P Q step [] (y ∷ ys) p = absurd p
each P Q step (x ∷ xs) [] p = absurd p
each P Q step (x ∷ xs) (y ∷ ys) p = (step x y p.0, each P Q step xs ys p.1)

-- ---- where none are skipped

all_behind : (string : List Reference) (frames : ℕ) (policies : List PolicyName) → map (count_of (λ misses. misses string) frames) policies ≡ map (count_of (missed_behind 0 string) frames) policies
all_behind string frames [] = refl
all_behind string frames (policy ∷ policies) =
    let none : misses_of policy frames [] ≡ 0 = nothing_missed policy frames in
    let same : misses_of policy frames string ≡ misses_of policy frames string - misses_of policy frames [] = omega (arith, none) in
    let first : count_of (λ misses. misses string) frames policy ≡ count_of (missed_behind 0 string) frames policy = λ i. record { policy = policy; count = asked (serves policy frames) (same i) } in
    ap (λ (c : PolicyCount). c ∷ map (count_of (λ misses. misses string) frames) policies) first ∙ ap (λ (l : List PolicyCount). count_of (missed_behind 0 string) frames policy ∷ l) (all_behind string frames policies)

row_replayed : (wanted : PolicySet) (string : List Reference) (frames : Frames) (row : PolicyCounts) → IsRow wanted string frames row → IsReplayed wanted 0 string frames row
unfolding IsRow IsReplayed
row_replayed wanted string frames row is = record {
  with_frames = is.with_frames;
  of_references = is.of_references ∙ omega arith;
  of_policies = is.of_policies ∙ all_behind string frames.number wanted.policies.items;
  of_optimum = is.of_optimum;
}

pub whole_replayed : (wanted : PolicySet) (string : List Reference) (frames : List Frames) (rows : List PolicyCounts) → AllZip (IsRow wanted string) frames rows → AllZip (IsReplayed wanted 0 string) frames rows
whole_replayed wanted string frames rows zipped = each (IsRow wanted string) (IsReplayed wanted 0 string) (row_replayed wanted string) frames rows zipped

-- ---- where the optimum is not asked for

told_replayed : (wanted : PolicySet) (skipped played : List Reference) → wanted.optimum ≡ false → (frames : Frames) (row : PolicyCounts) → TellsPlayed wanted.policies.items skipped played frames row
    → IsReplayed wanted (length skipped) (skipped ++ played) frames row
unfolding IsReplayed
told_replayed wanted skipped played none frames row is =
    let sized : length (skipped ++ played) ≡ length skipped + length played = length-append skipped played in
    let left : length played ≡ length (skipped ++ played) - length skipped = omega (arith, sized) in record {
      with_frames = is.with_frames;
      of_references = is.of_references ∙ left;
      of_policies = is.of_policies;
      of_optimum = is.of_optimum ∙ ap (λ (b : Bool). asked b (optimal_misses frames.number (pages_of (skipped ++ played)))) (sym none);
    }

-- what rows tell that have played a string behind what they skipped
pub played_replayed : (wanted : PolicySet) (skipped played : List Reference) (frames : List Frames) (rows : Rows) (counts : List PolicyCounts) → wanted.optimum ≡ false
    → HavePlayed wanted.policies.items frames skipped played rows → RowsTell rows counts → AllZip (IsReplayed wanted (length skipped) (skipped ++ played)) frames counts
unfolding RowsTell
played_replayed wanted skipped played frames rows counts none have tells =
    each (TellsPlayed wanted.policies.items skipped played) (IsReplayed wanted (length skipped) (skipped ++ played)) (told_replayed wanted skipped played none) frames counts (tells wanted.policies.items frames skipped played have)
