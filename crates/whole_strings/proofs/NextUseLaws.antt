-- Next uses from the end of a string on.
use Rattle.std.specs.Prelude.{◌≡◌, ℕ, zero, suc, ◌+◌, ◌-◌, ◌<◌, true, false, cond, List, [], ◌∷◌, ◌++◌, length, drop, Option, Some, refl, slice_index_or}
use Rattle.std.proofs.Common.{arith, sym, reverse}
use Rattle.std.proofs.lemmas.List.{reverse-append}
use Rattle.clock_policy.specs.declared.key.Key.{Key}
use Rattle.page_policies.specs.Strings.{is_page}
use Rattle.page_policies.specs.Optimal.{next_use}
use Rattle.page_policies.specs.NextUses.{next_uses, known}

-- what is known of each page by where it was last met, from the end on
abbrev pub Known : (Key → Option ℕ) → ℕ → List Key → Type 0
Known ends seen rest = (q : Key) → known (ends q) + next_use q rest ≡ seen

pub known_more : (p : Key) (rest : List Key) (seen : ℕ) (old new : Key → Option ℕ) → Known old seen rest → ((q : Key) → new q ≡ cond (is_page p q) (Some (seen + 1)) (old q)) → Known new (seen + 1) (p ∷ rest)
known_more p rest seen old new h is q = rw (is q) (elim (is_page p q) as (λ b. known (cond b (Some (seen + 1)) (old q)) + cond b 0 (suc (next_use q rest)) ≡ seen + 1) [
  | true ↦ omega arith
  | false ↦ let e : known (old q) + next_use q rest ≡ seen = h q in omega (arith, e)
])

pub use_is : (p : Key) (rest : List Key) (seen : ℕ) (ends : Key → Option ℕ) → Known ends seen rest → seen - known (ends p) ≡ next_use p rest
use_is p rest seen ends h = let e : known (ends p) + next_use p rest ≡ seen = h p in omega (arith, e)

-- one reference more, from the end on
pub back : (d : Key) (s : List Key) (seen : ℕ) → seen < length s → drop (length s - (seen + 1)) s ≡ slice_index_or s (length s - 1 - seen) d ∷ drop (length s - seen) s
back d s seen h =
    let e : length s - (seen + 1) ≡ length s - 1 - seen = omega (arith, h) in
    let f : length s - seen ≡ suc (length s - 1 - seen) = omega (arith, h) in
    rw (e, f) (at s (length s - 1 - seen) (omega (arith, h)))
  where
    at : (s : List Key) (i : ℕ) → i < length s → drop i s ≡ slice_index_or s i d ∷ drop (suc i) s
    at [] i h = absurd (omega (arith, h))
    at (x ∷ xs) zero h = refl
    at (x ∷ xs) (suc i) h = at xs i (omega (arith, h))

pub uses_back : (p : Key) (rest all : List Key) (items more : List ℕ) (n : ℕ) → all ≡ p ∷ rest → items ≡ reverse (next_uses rest) → n ≡ next_use p rest → more ≡ items ++ n ∷ [] → more ≡ reverse (next_uses all)
uses_back p rest all items more n is h e f = rw is (rw f (rw h (rw e (sym (reverse-append (next_use p rest ∷ []) (next_uses rest))))))
