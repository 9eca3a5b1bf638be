-- Numbers of frames that policies serve: none of them refuses one.
use Rattle.std.specs.Prelude.{◌≡◌, ℕ, zero, suc, ◌+◌, ◌<◌, ◌≤◌, ◌&&◌, ◌||◌, ◌⊎◌, Bool, true, false, nat_le, List, [], ◌∷◌, drop, length, map, slice_index_or, refl}
use Rattle.std.proofs.Common.{arith, ap, inl, inr, ◌∙◌}
use Rattle.std.proofs.lemmas.Bool.Decides.{nat_tests}
use Rattle.clock_policy.specs.FrameCounts.{least_frames, most_frames}
use Rattle.page_policies.specs.declared.frames.Frames.{Frames}
use Rattle.miss_counts.specs.Counted.{is_machines, serves, any_serves, any_served, needs_writes, any_needs_writes}
use Rattle.miss_counts.specs.declared.policy_name.PolicyName.{PolicyName}

both : (a b : Bool) → (a && b) ≡ true → (a ≡ true) × (b ≡ true)
both true true h = (refl, refl)
both true false h = cc
both false b h = cc

next : (n : ℕ) → suc n ≡ n + 1
next n = omega arith

-- the first policies serve no such number

pub serving_on : (n i : ℕ) (ps : List PolicyName) (d : PolicyName) → i < length ps → serves (slice_index_or ps i d) n ≡ false → any_serves ps n ≡ any_serves (drop i ps) n → any_serves ps n ≡ any_serves (drop (i + 1) ps) n
serving_on n i ps d h is before = before ∙ further i ps h is ∙ ap (λ (k : ℕ). any_serves (drop k ps) n) (next i)
  where
    further : (i : ℕ) (ps : List PolicyName) → i < length ps → serves (slice_index_or ps i d) n ≡ false → any_serves (drop i ps) n ≡ any_serves (drop (suc i) ps) n
    further i [] h is = absurd (omega (arith, h))
    further zero (p ∷ ps) h is = ap (λ (b : Bool). b || any_serves ps n) is
    further (suc i) (p ∷ ps) h is = further i ps (omega (arith, h)) is

pub serving_found : (n i : ℕ) (ps : List PolicyName) (d : PolicyName) → i < length ps → serves (slice_index_or ps i d) n ≡ true → any_serves ps n ≡ any_serves (drop i ps) n → any_serves ps n ≡ true
serving_found n i ps d h is before = before ∙ here i ps h is
  where
    here : (i : ℕ) (ps : List PolicyName) → i < length ps → serves (slice_index_or ps i d) n ≡ true → any_serves (drop i ps) n ≡ true
    here i [] h is = absurd (omega (arith, h))
    here zero (p ∷ ps) h is = ap (λ (b : Bool). b || any_serves ps n) is
    here (suc i) (p ∷ ps) h is = here i ps (omega (arith, h)) is

-- the first policies do not go by writes

pub writing_on : (i : ℕ) (ps : List PolicyName) (d : PolicyName) → i < length ps → needs_writes (slice_index_or ps i d) ≡ false → any_needs_writes ps ≡ any_needs_writes (drop i ps) → any_needs_writes ps ≡ any_needs_writes (drop (i + 1) ps)
writing_on i ps d h is before = before ∙ further i ps h is ∙ ap (λ (k : ℕ). any_needs_writes (drop k ps)) (next i)
  where
    further : (i : ℕ) (ps : List PolicyName) → i < length ps → needs_writes (slice_index_or ps i d) ≡ false → any_needs_writes (drop i ps) ≡ any_needs_writes (drop (suc i) ps)
    further i [] h is = absurd (omega (arith, h))
    further zero (p ∷ ps) h is = ap (λ (b : Bool). b || any_needs_writes ps) is
    further (suc i) (p ∷ ps) h is = further i ps (omega (arith, h)) is

pub writing_found : (i : ℕ) (ps : List PolicyName) (d : PolicyName) → i < length ps → needs_writes (slice_index_or ps i d) ≡ true → any_needs_writes ps ≡ any_needs_writes (drop i ps) → any_needs_writes ps ≡ true
writing_found i ps d h is before = before ∙ here i ps h is
  where
    here : (i : ℕ) (ps : List PolicyName) → i < length ps → needs_writes (slice_index_or ps i d) ≡ true → any_needs_writes (drop i ps) ≡ true
    here i [] h is = absurd (omega (arith, h))
    here zero (p ∷ ps) h is = ap (λ (b : Bool). b || any_needs_writes ps) is
    here (suc i) (p ∷ ps) h is = here i ps (omega (arith, h)) is

-- none of them serves the first numbers

abbrev pub numbers_of : List Frames → List ℕ
numbers_of fs = map (λ f. f.number) fs

pub served_on : (ps : List PolicyName) (i : ℕ) (fs : List Frames) (d : Frames) → i < length fs → any_serves ps (slice_index_or fs i d).number ≡ false → any_served ps (numbers_of fs) ≡ any_served ps (numbers_of (drop i fs))
    → any_served ps (numbers_of fs) ≡ any_served ps (numbers_of (drop (i + 1) fs))
served_on ps i fs d h is before = before ∙ further i fs h is ∙ ap (λ (k : ℕ). any_served ps (numbers_of (drop k fs))) (next i)
  where
    further : (i : ℕ) (fs : List Frames) → i < length fs → any_serves ps (slice_index_or fs i d).number ≡ false → any_served ps (numbers_of (drop i fs)) ≡ any_served ps (numbers_of (drop (suc i) fs))
    further i [] h is = absurd (omega (arith, h))
    further zero (f ∷ fs) h is = ap (λ (b : Bool). b || any_served ps (numbers_of fs)) is
    further (suc i) (f ∷ fs) h is = further i fs (omega (arith, h)) is

pub served_found : (ps : List PolicyName) (i : ℕ) (fs : List Frames) (d : Frames) → i < length fs → any_serves ps (slice_index_or fs i d).number ≡ true → any_served ps (numbers_of fs) ≡ any_served ps (numbers_of (drop i fs))
    → any_served ps (numbers_of fs) ≡ true
served_found ps i fs d h is before = before ∙ here i fs h is
  where
    here : (i : ℕ) (fs : List Frames) → i < length fs → any_serves ps (slice_index_or fs i d).number ≡ true → any_served ps (numbers_of (drop i fs)) ≡ true
    here i [] h is = absurd (omega (arith, h))
    here zero (f ∷ fs) h is = ap (λ (b : Bool). b || any_served ps (numbers_of fs)) is
    here (suc i) (f ∷ fs) h is = here i fs (omega (arith, h)) is

-- a number that is served is no refused one

at_most : (a b : ℕ) → nat_le a b ≡ true → a ≤ b
at_most a b h = grind (arith, nat_tests)

pub not_refused : (n : ℕ) → is_machines n ≡ true → ((n < least_frames) ⊎ (most_frames < n)) → ⊥
not_refused n h (inl low) = let e : least_frames ≤ n = at_most least_frames n (both (nat_le least_frames n) (nat_le n most_frames) h).0 in omega (arith, e, low)
not_refused n h (inr high) = let e : n ≤ most_frames = at_most n most_frames (both (nat_le least_frames n) (nat_le n most_frames) h).1 in omega (arith, e, high)
