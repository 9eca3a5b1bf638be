-- Pages in their frames: proofs.
use Rattle.std.specs.Prelude.{◌≡◌, ℕ, zero, suc, ◌+◌, ◌-◌, ◌<◌, ◌≤◌, Bool, true, false, cond, not, nat_lt, List, [], ◌∷◌, ◌++◌, length, drop, take, slice_get, slice_set, slice_index_or, swap_remove, position, Option, Some, None, IfSome, refl}
use Rattle.std.specs.List.{position_or_len}
use Rattle.std.specs.Map.{keys_of, values_of}
use Rattle.indexmap.specs.IndexMap.{insert_entry, set_value_at}
use Rattle.std.proofs.Common.{add-one, arith, sym, ap, subst, ◌∙◌}
use Rattle.std.proofs.lemmas.Bool.Decides.{nat_tests}
use Rattle.std.proofs.lemmas.List.{drop_more}
use Rattle.clock_policy.specs.declared.key.Key.{Key}
use Rattle.page_policies.specs.Strings.{is_page}
use Rattle.ticked_policies.specs.declared.marks.Marks.{Marks}
use Rattle.ticked_policies.specs.declared.ticked_rule.TickedRule.{TickedRule}
use Rattle.ticked_policies.specs.Framed.{better, in_frames, lowest, lowest_from, noted, rank_in, used_by}
use Rattle.ticked_policies.specs.Ticked.{each_ticked, ticked, ticked_at}

-- ---- a page's place

abbrev at : Key → List (Key × Marks) → ℕ
at p fs = position_or_len (is_page p) (keys_of fs)

less_more : (a n : ℕ) → nat_lt (1 + a) (suc n) ≡ nat_lt a n
less_more a n = grind (arith, nat_tests)

within : (p : Key) (fs : List (Key × Marks)) → nat_lt (at p fs) (length (keys_of fs)) ≡ in_frames p fs
within p [] = refl
within p (f ∷ fs) = elim (is_page p f.0) as (λ b. nat_lt (cond (not b) (1 + at p fs) 0) (suc (length (keys_of fs))) ≡ cond b true (in_frames p fs)) [
  | true ↦ grind (arith, nat_tests)
  | false ↦ less_more (at p fs) (length (keys_of fs)) ∙ within p fs
]

pub nowhere : (p : Key) (fs : List (Key × Marks)) → position (is_page p) (keys_of fs) ≡ None → in_frames p fs ≡ false
nowhere p fs h = by_test (in_frames p fs) (within p fs)
  where
    by_test : (b : Bool) → nat_lt (at p fs) (length (keys_of fs)) ≡ b → b ≡ false
    by_test true e = let is : cond true (Some (at p fs)) None ≡ None = sym (ap (λ (b : Bool). let o : Option ℕ = cond b (Some (at p fs)) None in o) e) ∙ h in cc
    by_test false e = refl

pub unnoted : (p : Key) (writes : Bool) (fs : List (Key × Marks)) → in_frames p fs ≡ false → noted p writes fs ≡ fs
unnoted p writes [] h = refl
unnoted p writes (f ∷ fs) h = elim (is_page p f.0) as (λ b. cond b true (in_frames p fs) ≡ false → cond b ((f.0, used_by writes f.1) ∷ fs) (f ∷ noted p writes fs) ≡ f ∷ fs) [
  | true ↦ λ g. cc
  | false ↦ λ g. ap (λ (l : List (Key × Marks)). f ∷ l) (unnoted p writes fs g)
] h

-- where it is

pub somewhere : (p : Key) (i : ℕ) (fs : List (Key × Marks)) → position (is_page p) (keys_of fs) ≡ Some i → (in_frames p fs ≡ true) × (i ≡ at p fs)
somewhere p i fs h = by_test (in_frames p fs) (within p fs)
  where
    by_test : (b : Bool) → nat_lt (at p fs) (length (keys_of fs)) ≡ b → (b ≡ true) × (i ≡ at p fs)
    by_test true e = let is : Some (at p fs) ≡ Some i = sym (ap (λ (b : Bool). let o : Option ℕ = cond b (Some (at p fs)) None in o) e) ∙ h in (refl, cc)
    by_test false e = let is : (let o : Option ℕ = None in o) ≡ Some i = sym (ap (λ (b : Bool). let o : Option ℕ = cond b (Some (at p fs)) None in o) e) ∙ h in cc

first_marks : (m n : Marks) → (let o : Option Marks = Some m in o) ≡ Some n → m ≡ n
first_marks m n h = cc

one_suc : (n : ℕ) → 1 + n ≡ suc n
one_suc n = omega arith

noted_at : (p : Key) (writes : Bool) (m : Marks) (fs : List (Key × Marks)) → in_frames p fs ≡ true → slice_get (values_of fs) (at p fs) ≡ Some m → set_value_at fs (at p fs) (used_by writes m) ≡ noted p writes fs
noted_at p writes m [] there is = refl
noted_at p writes m (f ∷ fs) there is =
    elim (is_page p f.0) as (λ b. cond b true (in_frames p fs) ≡ true → slice_get (values_of (f ∷ fs)) (cond (not b) (1 + at p fs) 0) ≡ Some m
    → set_value_at (f ∷ fs) (cond (not b) (1 + at p fs) 0) (used_by writes m) ≡ cond b ((f.0, used_by writes f.1) ∷ fs) (f ∷ noted p writes fs)) [
      | true ↦ λ g e. ap (λ (n : Marks). (f.0, used_by writes n) ∷ fs) (sym (first_marks f.1 m e))
      | false ↦ λ g e.
          let behind : slice_get (values_of fs) (at p fs) ≡ Some m = ap (slice_get (values_of (f ∷ fs))) (sym (one_suc (at p fs))) ∙ e in
          ap (λ (k : ℕ). set_value_at (f ∷ fs) k (used_by writes m)) (one_suc (at p fs)) ∙ ap (λ (l : List (Key × Marks)). f ∷ l) (noted_at p writes m fs g behind)
    ] there is

pub noted_there : (p : Key) (writes : Bool) (m : Marks) (i : ℕ) (fs : List (Key × Marks)) → position (is_page p) (keys_of fs) ≡ Some i → slice_get (values_of fs) i ≡ Some m → set_value_at fs i (used_by writes m) ≡ noted p writes fs
noted_there p writes m i fs h is =
    let there : (in_frames p fs ≡ true) × (i ≡ at p fs) = somewhere p i fs h in
    ap (λ (k : ℕ). set_value_at fs k (used_by writes m)) there.1 ∙ noted_at p writes m fs there.0 (ap (slice_get (values_of fs)) (sym there.1) ∙ is)

-- ---- a page that comes in

pub entered : (p : Key) (m : Marks) (fs : List (Key × Marks)) → in_frames p fs ≡ false → insert_entry is_page fs p m ≡ fs ++ (p, m) ∷ []
entered p m [] h = refl
entered p m (f ∷ fs) h = elim (is_page p f.0) as (λ b. cond b true (in_frames p fs) ≡ false → cond b ((f.0, m) ∷ fs) (f ∷ insert_entry is_page fs p m) ≡ f ∷ (fs ++ (p, m) ∷ [])) [
  | true ↦ λ g. cc
  | false ↦ λ g. ap (λ (l : List (Key × Marks)). f ∷ l) (entered p m fs g)
] h

-- the last takes the place of the one that goes

last_is : (f d : Key × Marks) (fs : List (Key × Marks)) → slice_index_or (fs ++ f ∷ []) (length fs) d ≡ f
last_is f d [] = refl
last_is f d (g ∷ fs) = last_is f d fs

set_front : (i : ℕ) (f g : Key × Marks) (fs : List (Key × Marks)) → i < length fs → slice_set (fs ++ f ∷ []) i g ≡ slice_set fs i g ++ f ∷ []
set_front i f g [] h = absurd (omega (arith, h))
set_front zero f g (x ∷ fs) h = refl
set_front (suc i) f g (x ∷ fs) h = ap (λ (l : List (Key × Marks)). x ∷ l) (set_front i f g fs (omega (arith, h)))

cut : (f : Key × Marks) (fs : List (Key × Marks)) → take (length fs) (fs ++ f ∷ []) ≡ fs
cut f [] = refl
cut f (x ∷ fs) = ap (λ (l : List (Key × Marks)). x ∷ l) (cut f fs)

long : (i : ℕ) (g : Key × Marks) (fs : List (Key × Marks)) → length (slice_set fs i g) ≡ length fs
long i g [] = refl
long zero g (x ∷ fs) = refl
long (suc i) g (x ∷ fs) = ap suc (long i g fs)

pub pushed_long : (f : Key × Marks) (fs : List (Key × Marks)) → length (fs ++ f ∷ []) ≡ length fs + 1
pushed_long f [] = omega arith
pushed_long f (x ∷ fs) = let rest : length (fs ++ f ∷ []) ≡ length fs + 1 = pushed_long f fs in omega (arith, rest)

pub replaced : (i : ℕ) (f d : Key × Marks) (fs : List (Key × Marks)) → i < length fs → swap_remove (fs ++ f ∷ []) i d ≡ slice_set fs i f
replaced i f d fs h =
    let size : length (fs ++ f ∷ []) ≡ length fs + 1 = pushed_long f fs in
    let last : length (fs ++ f ∷ []) - 1 ≡ length fs = omega (arith, size) in
    ap (λ (k : ℕ). take k (slice_set (fs ++ f ∷ []) i (slice_index_or (fs ++ f ∷ []) k d))) last
    ∙ ap (λ (g : Key × Marks). take (length fs) (slice_set (fs ++ f ∷ []) i g)) (last_is f d fs)
    ∙ ap (take (length fs)) (set_front i f f fs h)
    ∙ ap (λ (k : ℕ). take k (slice_set fs i f ++ f ∷ [])) (sym (long i f fs))
    ∙ cut f (slice_set fs i f)

in_front : (i : ℕ) (f : Key × Marks) (fs : List (Key × Marks)) → i < length fs → slice_get (fs ++ f ∷ []) i ≡ None → ⊥
in_front i f [] h is = omega (arith, h)
in_front zero f (x ∷ fs) h is = cc
in_front (suc i) f (x ∷ fs) h is = in_front i f fs (omega (arith, h)) is

pub swapped : (i : ℕ) (f : Key × Marks) (fs gs hs : List (Key × Marks)) (gone : Option (Key × Marks)) → i < length fs → gs ≡ fs ++ f ∷ [] → gone ≡ slice_get gs i → IfSome gone (λ p. hs ≡ swap_remove gs i p) → hs ≡ slice_set fs i f
swapped i f fs gs hs None h pushed is left = absurd (in_front i f fs h (ap (λ (l : List (Key × Marks)). slice_get l i) (sym pushed) ∙ sym is))
swapped i f fs gs hs (Some p) h pushed is left = left ∙ ap (λ (l : List (Key × Marks)). swap_remove l i p) pushed ∙ replaced i f p fs h

-- ---- the first frame with the least rank

get_in : (i : ℕ) (fs : List (Key × Marks)) (d : Key × Marks) → i < length fs → slice_get fs i ≡ Some (slice_index_or fs i d)
get_in i [] d h = absurd (omega (arith, h))
get_in zero (f ∷ fs) d h = refl
get_in (suc i) (f ∷ fs) d h = get_in i fs d (omega (arith, h))

pub lowest_first : (rank : Marks → ℕ) (fs : List (Key × Marks)) → 1 ≤ length fs → lowest_from rank 0 (rank_in rank (slice_get fs 0)) 1 (drop 1 fs) ≡ lowest rank fs
lowest_first rank [] h = absurd (omega (arith, h))
lowest_first rank (f ∷ fs) h = refl

chosen : (rank : Marks → ℕ) (fs : List (Key × Marks)) (best place : ℕ) (rest : List (Key × Marks)) (b : Bool) → lowest_from rank (cond b place best) (rank_in rank (slice_get fs (cond b place best))) (suc place) rest
    ≡ cond b (lowest_from rank place (rank_in rank (slice_get fs place)) (suc place) rest) (lowest_from rank best (rank_in rank (slice_get fs best)) (suc place) rest)
chosen rank fs best place rest true = refl
chosen rank fs best place rest false = refl

more_from : (rank : Marks → ℕ) (fs : List (Key × Marks)) (d : Key × Marks) (best new place : ℕ) → place < length fs → new ≡ better rank fs best place
    → lowest_from rank new (rank_in rank (slice_get fs new)) (place + 1) (drop (place + 1) fs) ≡ lowest_from rank best (rank_in rank (slice_get fs best)) place (drop place fs)
more_from rank fs d best new place h is =
    let here : slice_get fs place ≡ Some (slice_index_or fs place d) = get_in place fs d h in
    let rest = drop (place + 1) fs in
    ap (λ (k : ℕ). lowest_from rank k (rank_in rank (slice_get fs k)) (place + 1) rest) is
    ∙ ap (λ (k : ℕ). lowest_from rank (better rank fs best place) (rank_in rank (slice_get fs (better rank fs best place))) k rest) (sym (one_more place))
    ∙ chosen rank fs best place rest (nat_lt (rank_in rank (slice_get fs place)) (rank_in rank (slice_get fs best)))
    ∙ ap (λ (o : Option (Key × Marks)). cond (nat_lt (rank_in rank o) (rank_in rank (slice_get fs best))) (lowest_from rank place (rank_in rank o) (suc place) rest) (lowest_from rank best (rank_in rank (slice_get fs best)) (suc place) rest)) here
    ∙ ap (lowest_from rank best (rank_in rank (slice_get fs best)) place) (sym (drop_more fs place d h))
  where
    one_more : (n : ℕ) → suc n ≡ n + 1
    one_more n = omega arith

pub lowest_more : (rank : Marks → ℕ) (fs : List (Key × Marks)) (best new place : ℕ) → place < length fs → new ≡ better rank fs best place
    → lowest_from rank new (rank_in rank (slice_get fs new)) (place + 1) (drop (place + 1) fs) ≡ lowest_from rank best (rank_in rank (slice_get fs best)) place (drop place fs)
lowest_more rank [] best new place h is = absurd (omega (arith, h))
lowest_more rank (f ∷ fs) best new place h is = more_from rank (f ∷ fs) f best new place h is

pub better_within : (rank : Marks → ℕ) (fs : List (Key × Marks)) (best new place : ℕ) → best < length fs → place < length fs → new ≡ better rank fs best place → new < length fs
better_within rank fs best new place few h is = subst (λ (k : ℕ). k < length fs) (sym is) (either (nat_lt (rank_in rank (slice_get fs place)) (rank_in rank (slice_get fs best))))
  where
    either : (b : Bool) → cond b place best < length fs
    either true = h
    either false = few

pub lowest_all : (rank : Marks → ℕ) (fs : List (Key × Marks)) (best place : ℕ) → length fs ≤ place → lowest_from rank best (rank_in rank (slice_get fs best)) place (drop place fs) ≡ best
lowest_all rank fs best place h = ap (lowest_from rank best (rank_in rank (slice_get fs best)) place) (past place fs h)
  where
    past : (i : ℕ) (fs : List (Key × Marks)) → length fs ≤ i → drop i fs ≡ []
    past zero [] h = refl
    past zero (f ∷ fs) h = absurd (omega (arith, h))
    past (suc i) [] h = refl
    past (suc i) (f ∷ fs) h = past i fs (omega (arith, h))

-- ---- a tick

pub one_ticked : (rule : TickedRule) (place : ℕ) (m : Marks) (fs : List (Key × Marks)) → slice_get (values_of fs) place ≡ Some m → set_value_at fs place (ticked rule m) ≡ ticked_at rule place fs
one_ticked rule place m [] h = refl
one_ticked rule zero m (f ∷ fs) h = ap (λ (n : Marks). (f.0, ticked rule n) ∷ fs) (sym (first_marks f.1 m h))
one_ticked rule (suc place) m (f ∷ fs) h = ap (λ (l : List (Key × Marks)). f ∷ l) (one_ticked rule place m fs h)

pub none_ticked : (rule : TickedRule) (place : ℕ) (fs : List (Key × Marks)) → slice_get (values_of fs) place ≡ None → ticked_at rule place fs ≡ fs
none_ticked rule place [] h = refl
none_ticked rule zero (f ∷ fs) h = cc
none_ticked rule (suc place) (f ∷ fs) h = ap (λ (l : List (Key × Marks)). f ∷ l) (none_ticked rule place fs h)

-- from a place on
abbrev pub ticked_from : TickedRule → ℕ → List (Key × Marks) → List (Key × Marks)
ticked_from rule zero fs = each_ticked rule fs
ticked_from rule (suc place) [] = []
ticked_from rule (suc place) (f ∷ fs) = f ∷ ticked_from rule place fs

from_next : (rule : TickedRule) (place : ℕ) (fs : List (Key × Marks)) → ticked_from rule (suc place) (ticked_at rule place fs) ≡ ticked_from rule place fs
from_next rule zero [] = refl
from_next rule zero (f ∷ fs) = refl
from_next rule (suc place) [] = refl
from_next rule (suc place) (f ∷ fs) = ap (λ (l : List (Key × Marks)). f ∷ l) (from_next rule place fs)

pub ticked_more : (rule : TickedRule) (place : ℕ) (fs gs : List (Key × Marks)) → gs ≡ ticked_at rule place fs → ticked_from rule (place + 1) gs ≡ ticked_from rule place fs
ticked_more rule place fs gs is = rw add-one (ap (ticked_from rule (suc place)) is ∙ from_next rule place fs)

pub ticked_long : (rule : TickedRule) (place : ℕ) (fs gs : List (Key × Marks)) → gs ≡ ticked_at rule place fs → length gs ≡ length fs
ticked_long rule place fs gs is = ap length is ∙ as_long place fs
  where
    as_long : (place : ℕ) (fs : List (Key × Marks)) → length (ticked_at rule place fs) ≡ length fs
    as_long place [] = refl
    as_long zero (f ∷ fs) = refl
    as_long (suc place) (f ∷ fs) = ap suc (as_long place fs)

pub all_ticked : (rule : TickedRule) (place : ℕ) (fs : List (Key × Marks)) → length fs ≤ place → ticked_from rule place fs ≡ fs
all_ticked rule zero [] h = refl
all_ticked rule zero (f ∷ fs) h = absurd (omega (arith, h))
all_ticked rule (suc place) [] h = refl
all_ticked rule (suc place) (f ∷ fs) h = ap (λ (l : List (Key × Marks)). f ∷ l) (all_ticked rule place fs (omega (arith, h)))
