-- Paths that grow.
use Rattle.std.proofs.Common.{◌≡◌, ℕ, zero, suc, ◌+◌, ◌-◌, ◌<◌, ◌≤◌, nat_lt, Bool, true, false, List, [], ◌∷◌, ◌++◌, length, slice_index_or, slice_set, Option, Some, refl, sym, ap, ◌∙◌, arith, true≢false}
use Rattle.run_paths.specs.declared.path.Whose.{Whose}
use Rattle.run_paths.specs.declared.path.Stretch.{Stretch}
use Rattle.run_paths.specs.declared.path.Path.{Path}
use Rattle.run_paths.specs.Paths.{whose_at, steps_of, taken_of, part_of}
use Rattle.run_paths.specs.Extending.{IsCounted, Extends, GoesOn, Lengthens, last_whose}
use Rattle.run_paths.proofs.Along.{whose_here, whose_past}
use Rattle.run_paths.proofs.Parts.{whose_part, steps_part, is_less, is_most}

-- ---- a longer last stretch

more_of : Stretch → ℕ → Stretch
more_of stretch extra = record { whose = stretch.whose; count = stretch.count + extra }

with_more : List Stretch → ℕ → List Stretch
with_more [] extra = []
with_more (stretch ∷ []) extra = more_of stretch extra ∷ []
with_more (stretch ∷ (next ∷ path)) extra = stretch ∷ with_more (next ∷ path) extra

-- the first stretch, or one behind it
by_first : (first : Stretch) (path other : List Stretch) (o : Option Whose) (i : ℕ) → (i < first.count → whose_at (first ∷ other) i ≡ o) → (first.count ≤ i → whose_at other (i - first.count) ≡ o) → whose_at (first ∷ other) i ≡ o
by_first first path other o i here past = by_test (nat_lt i first.count) refl
  where
    by_test : (b : Bool) → nat_lt i first.count ≡ b → whose_at (first ∷ other) i ≡ o
    by_test true e = here (is_less i first.count e)
    by_test false e = whose_past first other i (is_most i first.count e) ∙ past (is_most i first.count e)

steps_with : (path : List Stretch) (extra : ℕ) → 0 < length path → steps_of (with_more path extra) ≡ steps_of path + extra
unfolding steps_of with_more more_of
steps_with [] extra some = absurd (omega (arith, some))
steps_with (stretch ∷ []) extra some = omega arith
steps_with (stretch ∷ (next ∷ path)) extra some = let rest = steps_with (next ∷ path) extra (omega arith) in omega (arith, rest)

same_with : (path : List Stretch) (extra i : ℕ) → i < steps_of path → whose_at (with_more path extra) i ≡ whose_at path i
unfolding steps_of with_more more_of
same_with [] extra i h = absurd (omega (arith, h))
same_with (stretch ∷ []) extra i h =
    let here : i < stretch.count = omega (arith, h) in
    whose_here (more_of stretch extra) [] i (omega (arith, here)) ∙ sym (whose_here stretch [] i here)
same_with (stretch ∷ (next ∷ path)) extra i h =
    by_first stretch [] (with_more (next ∷ path) extra) (whose_at (stretch ∷ (next ∷ path)) i) i
    (λ here. whose_here stretch (with_more (next ∷ path) extra) i here ∙ sym (whose_here stretch (next ∷ path) i here))
    (λ past. same_with (next ∷ path) extra (i - stretch.count) (omega (arith, h, past)) ∙ sym (whose_past stretch (next ∷ path) i past))

added_with : (path : List Stretch) (extra i : ℕ) → 0 < length path → steps_of path ≤ i → i < steps_of path + extra → whose_at (with_more path extra) i ≡ last_whose path
unfolding steps_of with_more more_of last_whose
added_with [] extra i some past h = absurd (omega (arith, some))
added_with (stretch ∷ []) extra i some past h = whose_here (more_of stretch extra) [] i (omega (arith, h))
added_with (stretch ∷ (next ∷ path)) extra i some past h =
    let first : stretch.count ≤ i = omega (arith, past) in
    whose_past stretch (with_more (next ∷ path) extra) i first ∙ added_with (next ∷ path) extra (i - stretch.count) (omega arith) (omega (arith, past, first)) (omega (arith, h, first))

-- the same as the last place is set
set_last : (path : List Stretch) (extra : ℕ) (d : Stretch) → 0 < length path → slice_set path (length path - 1) (more_of (slice_index_or path (length path - 1) d) extra) ≡ with_more path extra
unfolding with_more
set_last [] extra d some = absurd (omega (arith, some))
set_last (stretch ∷ []) extra d some = refl
set_last (stretch ∷ (next ∷ path)) extra d some =
    let place : length (stretch ∷ (next ∷ path)) - 1 ≡ suc (length (next ∷ path) - 1) = omega arith in
    ap (λ k. slice_set (stretch ∷ (next ∷ path)) k (more_of (slice_index_or (stretch ∷ (next ∷ path)) k d) extra)) place
    ∙ ap (λ (l : List Stretch). stretch ∷ l) (set_last (next ∷ path) extra d (omega arith))

pub lengthens : (old new : Path) (end extra : ℕ) (d : Stretch) (set : Stretch) → IsCounted old → 0 < length old.stretches.items → end ≡ old.total + extra → set.whose ≡ (slice_index_or old.stretches.items (length old.stretches.items - 1) d).whose
    → set.count ≡ (slice_index_or old.stretches.items (length old.stretches.items - 1) d).count + extra → new.stretches.items ≡ slice_set old.stretches.items (length old.stretches.items - 1) set → new.total ≡ end → Lengthens old end new
unfolding more_of
lengthens old new end extra d set counted some is whose_is count_is set_is total_is =
    let path = old.stretches.items in
    let last = slice_index_or path (length path - 1) d in
    let made : set ≡ more_of last extra =
    ap (λ (w : Whose). record { whose = w; count = set.count }) whose_is ∙ ap (λ n. record { whose = last.whose; count = n }) count_is in
    let all : new.stretches.items ≡ with_more path extra = set_is ∙ ap (slice_set path (length path - 1)) made ∙ set_last path extra d some in
    record {
      counted = ap steps_of all ∙ steps_with path extra some ∙ ap (λ n. n + extra) counted ∙ sym is ∙ sym total_is;
      reached = omega (arith, total_is);
      longer = omega (arith, total_is, is);
      kept = λ i h. ap (λ (l : List Stretch). whose_at l i) all ∙ same_with path extra i (omega (arith, h, counted));
      added = λ i past h. ap (λ (l : List Stretch). whose_at l i) all ∙ added_with path extra i some (omega (arith, past, counted)) (omega (arith, h, is, counted));
    }

-- ---- whose the last stretch is

last_is : (path : List Stretch) (d : Stretch) → 0 < length path → last_whose path ≡ Some (slice_index_or path (length path - 1) d).whose
unfolding last_whose
last_is [] d some = absurd (omega (arith, some))
last_is (stretch ∷ []) d some = refl
last_is (stretch ∷ (next ∷ path)) d some =
    let place : length (stretch ∷ (next ∷ path)) - 1 ≡ suc (length (next ∷ path) - 1) = omega arith in
    last_is (next ∷ path) d (omega arith) ∙ ap (λ k. Some (slice_index_or (stretch ∷ (next ∷ path)) k d).whose) (sym place)

least : (path : List Stretch) (d : Stretch) → 0 < length path → (slice_index_or path (length path - 1) d).count ≤ steps_of path
unfolding steps_of
least [] d some = absurd (omega (arith, some))
least (stretch ∷ []) d some = omega arith
least (stretch ∷ (next ∷ path)) d some =
    let place : length (stretch ∷ (next ∷ path)) - 1 ≡ suc (length (next ∷ path) - 1) = omega arith in
    let rest = least (next ∷ path) d (omega arith) in
    let same : (slice_index_or (stretch ∷ (next ∷ path)) (length (stretch ∷ (next ∷ path)) - 1) d).count ≡ (slice_index_or (next ∷ path) (length (next ∷ path) - 1) d).count =
    ap (λ k. (slice_index_or (stretch ∷ (next ∷ path)) k d).count) place in
    omega (arith, rest, same)

all_last : (path : List Stretch) (d : Stretch) (i : ℕ) → 0 < length path → steps_of path ≤ i + (slice_index_or path (length path - 1) d).count → i < steps_of path → whose_at path i ≡ Some (slice_index_or path (length path - 1) d).whose
unfolding steps_of
all_last [] d i some past h = absurd (omega (arith, some))
all_last (stretch ∷ []) d i some past h = whose_here stretch [] i (omega (arith, h))
all_last (stretch ∷ (next ∷ path)) d i some past h =
    let place : length (stretch ∷ (next ∷ path)) - 1 ≡ suc (length (next ∷ path) - 1) = omega arith in
    let same : (slice_index_or (stretch ∷ (next ∷ path)) (length (stretch ∷ (next ∷ path)) - 1) d).count ≡ (slice_index_or (next ∷ path) (length (next ∷ path) - 1) d).count =
    ap (λ k. (slice_index_or (stretch ∷ (next ∷ path)) k d).count) place in
    let few = least (next ∷ path) d (omega arith) in
    let first : stretch.count ≤ i = omega (arith, past, same, few) in
    whose_past stretch (next ∷ path) i first ∙ all_last (next ∷ path) d (i - stretch.count) (omega arith) (omega (arith, past, same, first)) (omega (arith, h, first))
    ∙ ap (λ k. Some (slice_index_or (stretch ∷ (next ∷ path)) k d).whose) (sym place)

pub goes_on : (path : Path) (d : Stretch) (done : ℕ) (whose : Whose) → IsCounted path → 0 < length path.stretches.items → (slice_index_or path.stretches.items (length path.stretches.items - 1) d).whose ≡ whose
    → path.total ≤ done + (slice_index_or path.stretches.items (length path.stretches.items - 1) d).count → GoesOn path.stretches.items done whose
goes_on path d done whose counted some is far = record {
  some = some;
  last = last_is path.stretches.items d some ∙ ap Some is;
  all = λ i past h. all_last path.stretches.items d i some (omega (arith, far, past, counted)) h ∙ ap Some is;
}

-- ---- steps behind all

pub whose_before : (path other : List Stretch) (i : ℕ) → i < steps_of path → whose_at (path ++ other) i ≡ whose_at path i
unfolding steps_of
whose_before [] other i h = absurd (omega (arith, h))
whose_before (stretch ∷ path) other i h =
    by_first stretch [] (path ++ other) (whose_at (stretch ∷ path) i) i
    (λ here. whose_here stretch (path ++ other) i here ∙ sym (whose_here stretch path i here))
    (λ past. whose_before path other (i - stretch.count) (omega (arith, h, past)) ∙ sym (whose_past stretch path i past))

pub whose_behind : (path other : List Stretch) (i : ℕ) → whose_at (path ++ other) (steps_of path + i) ≡ whose_at other i
unfolding steps_of
whose_behind [] other i = let none : 0 + i ≡ i = omega arith in ap (whose_at other) none
whose_behind (stretch ∷ path) other i =
    let past : stretch.count ≤ (stretch.count + steps_of path) + i = omega arith in
    let left : ((stretch.count + steps_of path) + i) - stretch.count ≡ steps_of path + i = omega arith in
    whose_past stretch (path ++ other) ((stretch.count + steps_of path) + i) past ∙ ap (whose_at (path ++ other)) left ∙ whose_behind path other i

steps_both : (path other : List Stretch) → steps_of (path ++ other) ≡ steps_of path + steps_of other
unfolding steps_of
steps_both [] other = omega arith
steps_both (stretch ∷ path) other = let rest = steps_both path other in omega (arith, rest)

steps_taken_of : (stretch : Stretch) (count : ℕ) → steps_of (taken_of stretch count) ≡ count
unfolding steps_of
steps_taken_of stretch zero = refl
steps_taken_of stretch (suc count) = omega arith

whose_taken : (stretch : Stretch) (count i : ℕ) → i < count → whose_at (taken_of stretch count) i ≡ Some stretch.whose
whose_taken stretch zero i h = absurd (omega (arith, h))
whose_taken stretch (suc count) i h = whose_here (record { whose = stretch.whose; count = suc count }) [] i h

-- ---- the three ways to grow

pub extends_less : (old new : Path) (done : ℕ) (whose : Whose) (count end : ℕ) (is_kept : Bool) → IsCounted old → done ≤ old.total → end ≡ done + count → GoesOn old.stretches.items done whose → Lengthens old end new → Extends old done whose count is_kept new
extends_less old new done whose count end is_kept counted within end_is goes longer =
    let reached = longer.reached in
    record {
      counted = longer.counted;
      reached = omega (arith, reached, end_is);
      before = λ i h. longer.kept i (omega (arith, h, within));
      added = λ i h. by_test i h (nat_lt (done + i) old.total) refl;
      kept = λ is. (longer.longer, longer.kept);
    }
  where
    by_test : (i : ℕ) → i < count → (b : Bool) → nat_lt (done + i) old.total ≡ b → whose_at new.stretches.items (done + i) ≡ Some whose
    by_test i h true e =
        let less = is_less (done + i) old.total e in
        longer.kept (done + i) less ∙ goes.all (done + i) (omega arith) (omega (arith, less, counted))
    by_test i h false e =
        let most = is_most (done + i) old.total e in longer.added (done + i) most (omega (arith, h, end_is)) ∙ goes.last

behind : (before : List Stretch) (new : Path) (done : ℕ) (stretch : Stretch) (count end : ℕ) → steps_of before ≡ done → end ≡ done + count → new.stretches.items ≡ before ++ taken_of stretch count → new.total ≡ end
    → IsCounted new × (((i : ℕ) → i < count → whose_at new.stretches.items (done + i) ≡ Some stretch.whose) × ((i : ℕ) → i < done → whose_at new.stretches.items i ≡ whose_at before i))
behind before new done stretch count end counted end_is made total_is = (
  ap steps_of made ∙ steps_both before (taken_of stretch count) ∙ ap (λ n. n + steps_of (taken_of stretch count)) counted ∙ ap (λ n. done + n) (steps_taken_of stretch count) ∙ sym end_is ∙ sym total_is,
  (
    λ i h. ap (λ (l : List Stretch). whose_at l (done + i)) made ∙ ap (λ k. whose_at (before ++ taken_of stretch count) (k + i)) (sym counted) ∙ whose_behind before (taken_of stretch count) i ∙ whose_taken stretch count i h,
    λ i h. ap (λ (l : List Stretch). whose_at l i) made ∙ whose_before before (taken_of stretch count) i (omega (arith, h, counted)),
  ),
)

pub extends_at_end : (old new : Path) (done : ℕ) (whose : Whose) (count end : ℕ) (is_kept : Bool) → IsCounted old → done ≡ old.total → end ≡ done + count
    → new.stretches.items ≡ old.stretches.items ++ taken_of (record { whose = whose; count = count }) count → new.total ≡ end → Extends old done whose count is_kept new
extends_at_end old new done whose count end is_kept counted is end_is made total_is =
    let both = behind old.stretches.items new done (record { whose = whose; count = count }) count end (counted ∙ sym is) end_is made total_is in
    record {
      counted = both.0;
      reached = omega (arith, end_is, total_is);
      before = both.1.1;
      added = both.1.0;
      kept = λ _. (omega (arith, is, end_is, total_is), λ i h. both.1.1 i (omega (arith, h, is)));
    }

pub extends_cut : (old new : Path) (done : ℕ) (whose : Whose) (count end : ℕ) → IsCounted old → done ≤ old.total → end ≡ done + count
    → new.stretches.items ≡ part_of old.stretches.items 0 done ++ taken_of (record { whose = whose; count = count }) count → new.total ≡ end → Extends old done whose count false new
extends_cut old new done whose count end counted within end_is made total_is =
    let long : steps_of (part_of old.stretches.items 0 done) ≡ done = steps_part old.stretches.items 0 done (omega (arith, within, counted)) in
    let both = behind (part_of old.stretches.items 0 done) new done (record { whose = whose; count = count }) count end long end_is made total_is in
    record {
      counted = both.0;
      reached = omega (arith, end_is, total_is);
      before = λ i h. let same : 0 + i ≡ i = omega arith in both.1.1 i h ∙ whose_part old.stretches.items 0 done i h ∙ ap (whose_at old.stretches.items) same;
      added = both.1.0;
      kept = λ never. absurd (true≢false (sym never));
    }

pub goes_on_by : (path : Path) (last : Stretch) (n rest done : ℕ) (whose : Whose) → IsCounted path → n ≡ length path.stretches.items → 0 < n → last ≡ slice_index_or path.stretches.items (n - 1) last → last.whose ≡ whose
    → rest ≡ path.total - last.count → rest ≤ done → GoesOn path.stretches.items done whose
goes_on_by path last n rest done whose counted long some there is rest_is far =
    let same : last ≡ slice_index_or path.stretches.items (length path.stretches.items - 1) last = there ∙ ap (λ k. slice_index_or path.stretches.items (k - 1) last) long in
    let counts : last.count ≡ (slice_index_or path.stretches.items (length path.stretches.items - 1) last).count = ap (λ (s : Stretch). s.count) same in
    goes_on path last done whose counted (omega (arith, some, long)) (ap (λ (s : Stretch). s.whose) (sym same) ∙ is) (omega (arith, far, rest_is, counts))

pub lengthens_by : (old : Path) (last : Stretch) (n end : ℕ) → IsCounted old → 0 < length old.stretches.items → n ≡ length old.stretches.items → last ≡ slice_index_or old.stretches.items (n - 1) last
    → old.total < end → (new : Path) → new.stretches.items ≡ slice_set old.stretches.items (n - 1) (record { whose = last.whose; count = last.count + (end - old.total) }) → new.total ≡ end → Lengthens old end new
lengthens_by old last n end counted some long there less new set_is total_is =
    let same : last ≡ slice_index_or old.stretches.items (length old.stretches.items - 1) last = there ∙ ap (λ k. slice_index_or old.stretches.items (k - 1) last) long in
    lengthens old new end (end - old.total) last (record { whose = last.whose; count = last.count + (end - old.total) }) counted some (omega (arith, less)) (ap (λ (s : Stretch). s.whose) same)
    (ap (λ (s : Stretch). s.count + (end - old.total)) same) (set_is ∙ ap (λ k. slice_set old.stretches.items (k - 1) (record { whose = last.whose; count = last.count + (end - old.total) })) long) total_is

-- the last stretch has no more steps than all
pub fits_by : (old : Path) (last : Stretch) (n end : ℕ) → IsCounted old → 0 < length old.stretches.items → n ≡ length old.stretches.items → last ≡ slice_index_or old.stretches.items (n - 1) last → old.total < end
    → last.count + (end - old.total) ≤ end
fits_by old last n end counted some long there less =
    let same : last ≡ slice_index_or old.stretches.items (length old.stretches.items - 1) last = there ∙ ap (λ k. slice_index_or old.stretches.items (k - 1) last) long in
    let counts : last.count ≡ (slice_index_or old.stretches.items (length old.stretches.items - 1) last).count = ap (λ (s : Stretch). s.count) same in
    let few = least old.stretches.items last some in
    omega (arith, few, counts, counted, less)
