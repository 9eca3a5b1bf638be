-- Parts of paths, stretch by stretch.
use Rattle.std.proofs.Common.{◌≡◌, ℕ, zero, suc, ◌+◌, ◌-◌, ◌<◌, ◌≤◌, ◌^◌, min, nat_lt, Bool, true, false, List, [], ◌∷◌, ◌++◌, length, take, drop, slice_index_or, Option, Some, None, IfNone, refl, sym, ap, ◌∙◌, arith, append-nil, append_assoc}
use Rattle.std.proofs.lemmas.List.{take_all, take_more, map-append, drop_all}
use Rattle.flat_machine.specs.declared.schedule.Turn.{Turn}
use Rattle.run_paths.specs.declared.path.Stretch.{Stretch}
use Rattle.run_paths.specs.Paths.{whose_at, steps_of, taken_of, part_of, stretch_of, path_of}
use Rattle.run_paths.proofs.Along.{whose_here, whose_past, steps_more}

from_place : {T : Type 0} (xs : List T) (n : ℕ) (x : T) → n < length xs → x ≡ slice_index_or xs n x → drop n xs ≡ x ∷ drop (suc n) xs
from_place [] n x within is = absurd (omega (arith, within))
from_place (y ∷ ys) zero x within is = ap (λ z. z ∷ ys) (sym is)
from_place (y ∷ ys) (suc n) x within is = from_place ys n x (omega (arith, within)) is

-- a list from a place on
from_here : {T : Type 0} (xs : List T) (n : ℕ) (x : T) → n < length xs → x ≡ slice_index_or xs n x → drop n xs ≡ x ∷ drop (n + 1) xs
from_here xs n x within is = let more : suc n ≡ n + 1 = omega arith in from_place xs n x within is ∙ ap (λ k. x ∷ drop k xs) more

-- ---- the path of turns

pub path_more : (turns : List Turn) (n : ℕ) (turn : Turn) (path new : List Stretch) (stretch : Stretch) → n < length turns → turn ≡ slice_index_or turns n turn → path ≡ path_of (take n turns) → stretch ≡ stretch_of turn
    → new ≡ path ++ stretch ∷ [] → new ≡ path_of (take (n + 1) turns)
path_more turns n turn path new stretch within is before made e =
    e ∙ ap (λ (l : List Stretch). l ++ stretch ∷ []) before ∙ ap (λ (s : Stretch). path_of (take n turns) ++ s ∷ []) (made ∙ ap stretch_of is)
    ∙ sym (map-append stretch_of (take n turns) (slice_index_or turns n turn ∷ [])) ∙ ap path_of (sym (take_more turns n turn within))

pub path_all : (turns : List Turn) (n : ℕ) (path : List Stretch) → length turns ≤ n → path ≡ path_of (take n turns) → path ≡ path_of turns
path_all turns n path all e = e ∙ ap path_of (take_all n turns all)

-- ---- a part of a path

pub part_more : (path part new whole : List Stretch) (n before left fewer less here : ℕ) (stretch : Stretch) → n < length path → stretch ≡ slice_index_or path n stretch
    → part ++ part_of (drop n path) before left ≡ whole → here ≡ stretch.count - before → new ≡ part ++ taken_of stretch (min left here) → fewer ≡ before - stretch.count → less ≡ left - here
    → new ++ part_of (drop (n + 1) path) fewer less ≡ whole
unfolding part_of
part_more path part new whole n before left fewer less here stretch within is e here_is made fewer_is less_is =
    ap (λ (l : List Stretch). l ++ part_of (drop (n + 1) path) fewer less) made
    ∙ append_assoc part (taken_of stretch (min left here)) (part_of (drop (n + 1) path) fewer less)
    ∙ ap (λ k. part ++ (taken_of stretch (min left k) ++ part_of (drop (n + 1) path) fewer less)) here_is
    ∙ ap (λ k. part ++ (taken_of stretch (min left (stretch.count - before)) ++ part_of (drop (n + 1) path) k less)) fewer_is
    ∙ ap (λ k. part ++ (taken_of stretch (min left (stretch.count - before)) ++ part_of (drop (n + 1) path) (before - stretch.count) k)) (less_is ∙ ap (λ k. left - k) here_is)
    ∙ ap (λ (l : List Stretch). part ++ part_of l before left) (sym (from_here path n stretch within is))
    ∙ e

pub part_all : (path part whole : List Stretch) (n before left : ℕ) → length path ≤ n → part ++ part_of (drop n path) before left ≡ whole → part ≡ whole
unfolding part_of
part_all path part whole n before left all e =
    sym (append-nil part) ∙ ap (λ (l : List Stretch). part ++ part_of l before left) (sym (drop_all n path all)) ∙ e

taken_here : (stretch : Stretch) (m : ℕ) (rest : List Stretch) (i : ℕ) → i < m → whose_at (taken_of stretch m ++ rest) i ≡ Some stretch.whose
taken_here stretch zero rest i h = absurd (omega (arith, h))
taken_here stretch (suc m) rest i h = whose_here (record { whose = stretch.whose; count = suc m }) rest i h

taken_past : (stretch : Stretch) (m : ℕ) (rest : List Stretch) (i : ℕ) → m ≤ i → whose_at (taken_of stretch m ++ rest) i ≡ whose_at rest (i - m)
taken_past stretch zero rest i h = let none : i ≡ i - 0 = omega arith in ap (whose_at rest) none
taken_past stretch (suc m) rest i h = whose_past (record { whose = stretch.whose; count = suc m }) rest i h

steps_taken : (stretch : Stretch) (m : ℕ) (rest : List Stretch) → steps_of (taken_of stretch m ++ rest) ≡ m + steps_of rest
unfolding steps_of
steps_taken stretch zero rest = omega arith
steps_taken stretch (suc m) rest = refl

pub is_less : (a b : ℕ) → nat_lt a b ≡ true → a < b
is_less a b h = grind arith

pub is_most : (a b : ℕ) → nat_lt a b ≡ false → b ≤ a
is_most a b h = grind arith

pub whose_part : (path : List Stretch) (before count i : ℕ) → i < count → whose_at (part_of path before count) i ≡ whose_at path (before + i)
unfolding part_of whose_at
whose_part [] before count i h = refl
whose_part (stretch ∷ path) before count i h =
    by_test stretch path before count i h (λ k f. whose_part path (before - stretch.count) (count - (stretch.count - before)) k f) (nat_lt i (stretch.count - before)) refl
  where
    by_test : (stretch : Stretch) (path : List Stretch) (before count i : ℕ) → i < count
        → ((k : ℕ) → k < count - (stretch.count - before) → whose_at (part_of path (before - stretch.count) (count - (stretch.count - before))) k ≡ whose_at path (before - stretch.count + k))
        → (b : Bool) → nat_lt i (stretch.count - before) ≡ b
        → whose_at (taken_of stretch (min count (stretch.count - before)) ++ part_of path (before - stretch.count) (count - (stretch.count - before))) i ≡ whose_at (stretch ∷ path) (before + i)
    by_test stretch path before count i h again true e =
        let less = is_less i (stretch.count - before) e in
        taken_here stretch (min count (stretch.count - before)) (part_of path (before - stretch.count) (count - (stretch.count - before))) i (omega (arith, less, h))
        ∙ sym (whose_here stretch path (before + i) (omega (arith, less)))
    by_test stretch path before count i h again false e =
        let most = is_most i (stretch.count - before) e in
        let all : min count (stretch.count - before) ≡ stretch.count - before = omega (arith, most, h) in
        let place : before - stretch.count + (i - min count (stretch.count - before)) ≡ before + i - stretch.count = omega (arith, most, h) in
        taken_past stretch (min count (stretch.count - before)) (part_of path (before - stretch.count) (count - (stretch.count - before))) i (omega (arith, most, all))
        ∙ again (i - min count (stretch.count - before)) (omega (arith, most, h, all)) ∙ ap (whose_at path) place
        ∙ sym (whose_past stretch path (before + i) (omega (arith, most)))

pub steps_part : (path : List Stretch) (before count : ℕ) → before + count ≤ steps_of path → steps_of (part_of path before count) ≡ count
unfolding part_of steps_of
steps_part [] before count h = omega (arith, h)
steps_part (stretch ∷ path) before count h =
    let rest = steps_part path (before - stretch.count) (count - (stretch.count - before)) (omega (arith, h)) in
    let split = steps_taken stretch (min count (stretch.count - before)) (part_of path (before - stretch.count) (count - (stretch.count - before))) in
    omega (arith, rest, split)

-- ---- whose step it is

pub whose_found : (path : List Stretch) (n before left : ℕ) (stretch : Stretch) → n < length path → stretch ≡ slice_index_or path n stretch → whose_at (drop n path) left ≡ whose_at path before → left < stretch.count
    → whose_at path before ≡ Some stretch.whose
whose_found path n before left stretch within is e h =
    sym e ∙ ap (λ (l : List Stretch). whose_at l left) (from_here path n stretch within is) ∙ whose_here stretch (drop (n + 1) path) left h

pub whose_more : (path : List Stretch) (n before left fewer : ℕ) (stretch : Stretch) → n < length path → stretch ≡ slice_index_or path n stretch → whose_at (drop n path) left ≡ whose_at path before → stretch.count ≤ left
    → fewer + stretch.count ≡ left → whose_at (drop (n + 1) path) fewer ≡ whose_at path before
whose_more path n before left fewer stretch within is e h less =
    let same : fewer ≡ left - stretch.count = omega (arith, less) in
    ap (whose_at (drop (n + 1) path)) same ∙ sym (whose_past stretch (drop (n + 1) path) left h) ∙ ap (λ (l : List Stretch). whose_at l left) (sym (from_here path n stretch within is)) ∙ e

pub whose_none : (path : List Stretch) (n before left : ℕ) → length path ≤ n → whose_at (drop n path) left ≡ whose_at path before → whose_at path before ≡ None
unfolding whose_at
whose_none path n before left all e = sym e ∙ ap (λ (l : List Stretch). whose_at l left) (drop_all n path all)

pub count_more : (path : List Stretch) (n count more : ℕ) (stretch : Stretch) → n < length path → stretch ≡ slice_index_or path n stretch → count ≡ steps_of (take n path) → more ≡ count + stretch.count → more ≡ steps_of (take (n + 1) path)
count_more path n count more stretch within is e sum = sum ∙ ap (λ k. k + stretch.count) e ∙ sym (steps_more path n stretch within is)

pub count_all : (path : List Stretch) (n count : ℕ) → length path ≤ n → count ≡ steps_of (take n path) → count ≡ steps_of path
count_all path n count all e = e ∙ ap steps_of (take_all n path all)

-- a beginning has no more steps than the whole
steps_begun : (path : List Stretch) (n : ℕ) → steps_of (take n path) ≤ steps_of path
unfolding steps_of
steps_begun path zero = omega arith
steps_begun [] (suc n) = omega arith
steps_begun (stretch ∷ path) (suc n) = let rest = steps_begun path n in omega (arith, rest)

count_many : (path : List Stretch) (n count : ℕ) (stretch : Stretch) → n < length path → stretch ≡ slice_index_or path n stretch → count ≡ steps_of (take n path) → 2 ^ 64 ≤ count + stretch.count → 2 ^ 64 ≤ steps_of path
count_many path n count stretch within is e many =
    let more = steps_more path n stretch within is in
    let begun = steps_begun path (n + 1) in
    omega (arith, more, begun, e, many)

pub count_none : (result : Option ℕ) (path : List Stretch) (n count : ℕ) (stretch : Stretch) → n < length path → stretch ≡ slice_index_or path n stretch → count ≡ steps_of (take n path) → 2 ^ 64 ≤ count + stretch.count
    → IfNone result (2 ^ 64 ≤ steps_of path)
count_none None path n count stretch within is e many = count_many path n count stretch within is e many
count_none (Some other) path n count stretch within is e many = tt
