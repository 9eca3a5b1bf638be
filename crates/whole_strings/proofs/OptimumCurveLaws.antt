-- What the optimum misses with every number of frames: proofs.
use Rattle.std.specs.Prelude.{◌≡◌, ℕ, zero, suc, ◌+◌, ◌-◌, ◌<◌, ◌≤◌, Bool, true, false, nat_lt, List, [], ◌∷◌, ◌++◌, length, slice_index_or, refl}
use Rattle.std.proofs.Common.{arith, sym, ap, ◌∙◌}
use Rattle.clock_policy.specs.declared.key.Key.{Key}
use Rattle.page_policies.specs.Optimal.{optimal_misses}
use Rattle.page_policies.proofs.NumberLaws.{less, most}
use Rattle.whole_strings.specs.LruDepths.{hits_within}
use Rattle.whole_strings.proofs.LruDepthLaws.{length_new}
use Rattle.whole_strings.specs.OptimumStack.{CountsOptimum}
use Rattle.whole_strings.specs.OptimumCurve.{IsOptimumCurve, FallsTo}

pub falls_are : (most references : ℕ) (counts curve : List ℕ) (string : List Key) → references ≡ length string → CountsOptimum most counts string → FallsTo most references counts curve → IsOptimumCurve most curve string
falls_are most references counts curve string long counted falls = record {
  whole = falls.whole;
  each = λ m h.
      let e : slice_index_or curve m 0 ≡ references - hits_within (m + 1) counts = falls.each m h in
      let f : optimal_misses (m + 1) string + hits_within (m + 1) counts ≡ length string = counted m h in
      omega (arith, e, f, long);
}

pub one_deeper : (depth : ℕ) (counts : List ℕ) → hits_within (depth + 1) counts ≡ hits_within depth counts + slice_index_or counts depth 0
one_deeper depth counts = ap (λ (k : ℕ). hits_within k counts) (one_on depth) ∙ further depth counts
  where
    one_on : (a : ℕ) → a + 1 ≡ suc a
    one_on a = omega arith

    further : (depth : ℕ) (counts : List ℕ) → hits_within (suc depth) counts ≡ hits_within depth counts + slice_index_or counts depth 0
    further zero [] = refl
    further (suc depth) [] = refl
    further zero (n ∷ ns) = omega arith
    further (suc depth) (n ∷ ns) = let later : hits_within (suc depth) ns ≡ hits_within depth ns + slice_index_or ns depth 0 = further depth ns in omega (arith, later)

-- So far: so many are left after so many depths.
pub record Falling (depth references left : ℕ) (counts curve : List ℕ) : Type 0 where
  pub now : left ≡ references - hits_within depth counts
  pub falls : FallsTo depth references counts curve

pub falling_on : (depth references left less_left : ℕ) (counts curve longer : List ℕ) → less_left ≡ left - slice_index_or counts depth 0 → longer ≡ curve ++ less_left ∷ [] → Falling depth references left counts curve → Falling (depth + 1) references less_left counts longer
falling_on depth references left less_left counts curve longer is pushed f =
    let before : left ≡ references - hits_within depth counts = f.now in
    let deeper : hits_within (depth + 1) counts ≡ hits_within depth counts + slice_index_or counts depth 0 = one_deeper depth counts in
    let after : less_left ≡ references - hits_within (depth + 1) counts = omega (arith, is, before, deeper) in
    let size : length curve ≡ depth = f.falls.whole in
    record {
      now = after;
      falls = record {
        whole = ap length pushed ∙ length_new curve less_left ∙ (omega (arith, size));
        each = λ m h. ap (λ (l : List ℕ). slice_index_or l m 0) pushed ∙ at_or_before m (nat_lt m depth) refl h after;
      };
    }
  where
    early : (m : ℕ) (l : List ℕ) → m < length l → slice_index_or (l ++ less_left ∷ []) m 0 ≡ slice_index_or l m 0
    early m [] h = absurd (omega (arith, h))
    early zero (y ∷ ys) h = refl
    early (suc m) (y ∷ ys) h = early m ys (omega (arith, h))

    late : (l : List ℕ) → slice_index_or (l ++ less_left ∷ []) (length l) 0 ≡ less_left
    late [] = refl
    late (y ∷ ys) = late ys

    at_or_before : (m : ℕ) (b : Bool) → nat_lt m depth ≡ b → m < depth + 1 → less_left ≡ references - hits_within (depth + 1) counts → slice_index_or (curve ++ less_left ∷ []) m 0 ≡ references - hits_within (m + 1) counts
    at_or_before m true e h after =
        let inside : m < depth = less m depth e in
        let size : length curve ≡ depth = f.falls.whole in early m curve (omega (arith, inside, size)) ∙ f.falls.each m inside
    at_or_before m false e h after =
        let size : length curve ≡ depth = f.falls.whole in
        let past : depth ≤ m = most m depth e in
        let is_last : m ≡ length curve = omega (arith, past, h, size) in
        let is_depth : m ≡ depth = omega (arith, past, h) in
        ap (λ (k : ℕ). slice_index_or (curve ++ less_left ∷ []) k 0) is_last ∙ late curve ∙ after ∙ ap (λ (k : ℕ). references - hits_within (k + 1) counts) (sym is_depth)

-- with no frames nothing is told
pub no_curve : (most : ℕ) (curve : List ℕ) (string : List Key) → most ≡ 0 → curve ≡ [] → IsOptimumCurve most curve string
no_curve most curve string none empty = rw (none, empty) (record { whole = refl; each = λ m h. absurd (omega (arith, h)) })
