-- What the loop that carries a place down does: proofs.
use Rattle.std.specs.Prelude.{◌≡◌, ℕ, zero, suc, ◌+◌, ◌<◌, ◌≤◌, ◌==◌, Bool, true, false, cond, List, [], ◌∷◌, ◌++◌, take, drop, length, slice_index_or, slice_set, refl}
use Rattle.std.proofs.Common.{arith, sym, ap, subst, ◌∙◌}
use Rattle.std.proofs.lemmas.Bool.Decides.{nat_tests}
use Rattle.whole_strings.specs.OptimumStack.{nearer, farther, place_depth, carried_down, restacked}

-- So far: what stands before `here` is as it will be, and so much is carried.
pub record Carrying (at next here carried : ℕ) (before now : List ℕ) : Type 0 where
  pub size : length now ≡ length before
  pub placed : restacked at next before ≡ take here now ++ carried_down at carried (drop here now)
  pub deep : place_depth at before ≡ here + place_depth at (drop here now)

-- the first place
pub carrying_first : (at next first : ℕ) (before now : List ℕ) → 0 < length before → first ≡ slice_index_or before 0 0 → (first == at) ≡ false → now ≡ slice_set before 0 next → Carrying at next 1 first before now
carrying_first at next first [] now some is apart set = absurd (omega (arith, some))
carrying_first at next first (y ∷ ys) now some is apart set = rw set (record {
  size = refl;
  placed = ap (λ (b : Bool). next ∷ cond b ys (carried_down at y ys)) (other first y is apart) ∙ ap (λ (k : ℕ). next ∷ carried_down at k ys) (sym is);
  deep = ap (λ (b : Bool). let k : ℕ = cond b 0 (suc (place_depth at ys)) in k) (other first y is apart) ∙ after (place_depth at ys);
})
  where
    after : (n : ℕ) → suc n ≡ 1 + n
    after n = omega arith

    other : (x y : ℕ) → x ≡ y → (x == at) ≡ false → (y == at) ≡ false
    other x y e h = subst (λ (k : ℕ). (k == at) ≡ false) e h

-- what stands here
here_is : (here : ℕ) (now : List ℕ) → here < length now → drop here now ≡ slice_index_or now here 0 ∷ drop (suc here) now
here_is here [] h = absurd (omega (arith, h))
here_is zero (y ∷ ys) h = refl
here_is (suc here) (y ∷ ys) h = here_is here ys (omega (arith, h))

set_length : (here k : ℕ) (now : List ℕ) → length (slice_set now here k) ≡ length now
set_length here k [] = refl
set_length zero k (y ∷ ys) = refl
set_length (suc here) k (y ∷ ys) = ap suc (set_length here k ys)

set_whole : (here k : ℕ) (now : List ℕ) → here < length now → take here now ++ k ∷ drop (suc here) now ≡ slice_set now here k
set_whole here k [] h = absurd (omega (arith, h))
set_whole zero k (y ∷ ys) h = refl
set_whole (suc here) k (y ∷ ys) h = ap (λ (l : List ℕ). y ∷ l) (set_whole here k ys (omega (arith, h)))

-- the place is found
pub carrying_found : (at next here carried : ℕ) (before now last : List ℕ) → here < length now → (slice_index_or now here 0 == at) ≡ true → last ≡ slice_set now here carried → Carrying at next here carried before now
    → (here ≡ place_depth at before) × (restacked at next before ≡ last) × (length last ≡ length before)
carrying_found at next here carried before now last inside same set c =
    let old : place_depth at before ≡ here + place_depth at (drop here now) = c.deep in
    let none : place_depth at (drop here now) ≡ 0 = ap (place_depth at) (here_is here now inside) ∙ ap (λ (b : Bool). let k : ℕ = cond b 0 (suc (place_depth at (drop (suc here) now))) in k) same in (
      omega (arith, old, none),
      c.placed ∙ ap (λ (l : List ℕ). take here now ++ carried_down at carried l) (here_is here now inside)
          ∙ ap (λ (b : Bool). take here now ++ cond b (carried ∷ drop (suc here) now) (nearer carried (slice_index_or now here 0) ∷ carried_down at (farther carried (slice_index_or now here 0)) (drop (suc here) now))) same
          ∙ set_whole here carried now inside ∙ sym set,
      ap length set ∙ set_length here carried now ∙ c.size,
    )

-- it is nowhere
pub carrying_end : (at next here carried : ℕ) (before now : List ℕ) → length now ≤ here → here ≤ length now → Carrying at next here carried before now
    → (length now ≡ place_depth at before) × (restacked at next before ≡ now ++ carried ∷ []) × (length now ≡ length before)
carrying_end at next here carried before now past within c =
    let e : here ≡ length now = omega (arith, past, within) in
    let old : place_depth at before ≡ here + place_depth at (drop here now) = c.deep in
    let none : place_depth at (drop here now) ≡ 0 = ap (place_depth at) (gone here now e) in (
      omega (arith, old, none, e),
      c.placed ∙ ap (λ (l : List ℕ). take here now ++ carried_down at carried l) (gone here now e) ∙ ap (λ (l : List ℕ). l ++ carried ∷ []) (all here now e),
      c.size,
    )
  where
    gone : (here : ℕ) (s : List ℕ) → here ≡ length s → drop here s ≡ []
    gone zero [] h = refl
    gone zero (q ∷ qs) h = absurd (omega (arith, h))
    gone (suc here) [] h = refl
    gone (suc here) (q ∷ qs) h = gone here qs (omega (arith, h))

    all : (here : ℕ) (s : List ℕ) → here ≡ length s → take here s ≡ s
    all zero [] h = refl
    all zero (q ∷ qs) h = absurd (omega (arith, h))
    all (suc here) [] h = refl
    all (suc here) (q ∷ qs) h = ap (λ (l : List ℕ). q ∷ l) (all here qs (omega (arith, h)))

-- the same, as the loop knows it

is_same : (a b : ℕ) → a ≡ b → (a == b) ≡ true
is_same a b h = grind (arith, nat_tests)

is_other : (a b : ℕ) → (a ≡ b → ⊥) → (a == b) ≡ false
is_other a b h = grind (arith, nat_tests)

pub loop_first : (at next : ℕ) (before : List ℕ) → 0 < length before → (slice_index_or before 0 0 ≡ at → ⊥) → Carrying at next 1 (slice_index_or before 0 0) before (slice_set before 0 next)
loop_first at next before some apart = carrying_first at next (slice_index_or before 0 0) before (slice_set before 0 next) some refl (is_other (slice_index_or before 0 0) at apart) refl

pub loop_found : (at next here carried : ℕ) (before now : List ℕ) → here < length (slice_set before 0 next) → slice_index_or now here 0 ≡ at → Carrying at next here carried before now → restacked at next before ≡ slice_set now here carried
loop_found at next here carried before now inside same c =
    let long : length (slice_set before 0 next) ≡ length before = set_length 0 next before in
    let size : length now ≡ length before = c.size in
    (carrying_found at next here carried before now (slice_set now here carried) (omega (arith, inside, long, size)) (is_same (slice_index_or now here 0) at same) refl c).1

pub loop_end : (at next here carried : ℕ) (before now : List ℕ) → 0 < length before → length (slice_set before 0 next) ≤ here → (1 ≤ length (slice_set before 0 next) → here ≤ length (slice_set before 0 next)) → Carrying at next here carried before now
    → restacked at next before ≡ now ++ carried ∷ []
loop_end at next here carried before now some past within c =
    let long : length (slice_set before 0 next) ≡ length before = set_length 0 next before in
    let size : length now ≡ length before = c.size in
    let up_to : here ≤ length (slice_set before 0 next) = within (omega (arith, some, long)) in
    (carrying_end at next here carried before now (omega (arith, past, long, size)) (omega (arith, up_to, long, size)) c).1
