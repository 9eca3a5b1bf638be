-- How many pages pass one test, where those that do pass another; and where one number alone can pass.
use Rattle.std.proofs.Common.{◌≡◌, ℕ, zero, suc, ◌+◌, ◌≤◌, ◌<◌, ◌^◌, Bool, true, false, cond, List, Option, Some, None, inl, inr, refl, ap, ◌∙◌, arith}
use Rattle.std.proofs.lemmas.Bool.Decides.{eqb_tells}
use Rattle.page_store.specs.PageValue.{PageValue}
use Rattle.paged_memory.specs.Counting.{page_passes, pages_below, pages_where}
use Rattle.paged_memory.specs.Paged.{page_at}

-- one truth brings the other
abbrev pub Implies : Bool → Bool → Type 0
Implies a b = a ≡ true → b ≡ true

less_cond : (a b : Bool) → Implies a b → cond {A = ℕ} a 1 0 ≤ cond b 1 0
less_cond true b h = rw (h refl) (omega arith)
less_cond false b h = omega arith

module _ {S : Type 0} (few many : ℕ → PageValue S → Bool) (pages : List (ℕ × PageValue S)) (all : (number : ℕ) (page : PageValue S) → Implies (few number page) (many number page)) where
  here : (number : ℕ) → Implies (page_passes (few number) (page_at pages number)) (page_passes (many number) (page_at pages number))
  here number = elim (page_at pages number) as (λ o. Implies (page_passes (few number) o) (page_passes (many number) o)) [ None ↦ λ h. h | Some page ↦ all number page ]

  fewer_below : (bound : ℕ) → pages_below few pages bound ≤ pages_below many pages bound
  unfolding pages_below
  fewer_below zero = omega arith
  fewer_below (suc bound) = omega (arith, less_cond (page_passes (few bound) (page_at pages bound)) (page_passes (many bound) (page_at pages bound)) (here bound), fewer_below bound)

  pub fewer_where : pages_where few pages ≤ pages_where many pages
  unfolding pages_where
  fewer_where = fewer_below (2 ^ 20)

  module _ (v : ℕ) (page : PageValue S) (at : page_at pages v ≡ Some page) (not : few v page ≡ false) (yes : many v page ≡ true) where
    one_below : (bound : ℕ) → v < bound → pages_below few pages bound + 1 ≤ pages_below many pages bound
    unfolding pages_below
    one_below zero below = absurd (omega arith)
    one_below (suc bound) below =
        elim (eqb_tells bound v) [
          | inl same ↦
              let first : cond {A = ℕ} (page_passes (few bound) (page_at pages bound)) 1 0 ≡ 0 = ap (λ n. cond {A = ℕ} (page_passes (few n) (page_at pages n)) 1 0) same.1 ∙ ap (λ o. cond {A = ℕ} (page_passes (few v) o) 1 0) at ∙ ap (λ b. cond {A = ℕ} b 1 0) not in
              let second : cond {A = ℕ} (page_passes (many bound) (page_at pages bound)) 1 0 ≡ 1 = ap (λ n. cond {A = ℕ} (page_passes (many n) (page_at pages n)) 1 0) same.1 ∙ ap (λ o. cond {A = ℕ} (page_passes (many v) o) 1 0) at ∙ ap (λ b. cond {A = ℕ} b 1 0) yes in
              omega (arith, first, second, fewer_below bound)
          | inr apart ↦
              let less : v < bound = let ne = apart.1 in omega (arith, ne, below) in
              omega (arith, less_cond (page_passes (few bound) (page_at pages bound)) (page_passes (many bound) (page_at pages bound)) (here bound), one_below bound less)
        ]

    -- a page that passes the second alone is one more
    pub one_fewer_where : v < 2 ^ 20 → pages_where few pages + 1 ≤ pages_where many pages
    unfolding pages_where
    one_fewer_where small = one_below (2 ^ 20) small

module _ {S : Type 0} (test : ℕ → PageValue S → Bool) (pages : List (ℕ × PageValue S)) (v : ℕ) (alone : (number : ℕ) (page : PageValue S) → test number page ≡ true → number ≡ v) where
  not_here : (number : ℕ) → (number ≡ v → ⊥) → page_passes (test number) (page_at pages number) ≡ false
  not_here number apart = by_page (page_at pages number)
    where
      by_page : (o : Option (PageValue S)) → page_passes (test number) o ≡ false
      by_page None = refl
      by_page (Some page) = by_test (test number page) refl
        where
          by_test : (b : Bool) → test number page ≡ b → test number page ≡ false
          by_test true is = absurd (apart (alone number page is))
          by_test false is = is

  none_before : (bound : ℕ) → bound ≤ v → pages_below test pages bound ≡ 0
  unfolding pages_below
  none_before zero small = refl
  none_before (suc bound) small =
      let no : cond {A = ℕ} (page_passes (test bound) (page_at pages bound)) 1 0 ≡ 0 = ap (λ b. cond {A = ℕ} b 1 0) (not_here bound (λ same. omega (arith, small, same))) in
      omega (arith, no, none_before bound (omega (arith, small)))

  few_cond : (b : Bool) → cond {A = ℕ} b 1 0 ≤ 1
  few_cond true = omega arith
  few_cond false = omega arith

  once_below : (bound : ℕ) → pages_below test pages bound ≤ 1
  unfolding pages_below
  once_below zero = omega arith
  once_below (suc bound) =
      elim (eqb_tells bound v) [
        | inl same ↦
            let rest = none_before bound (let e = same.1 in omega (arith, e)) in
            omega (arith, rest, few_cond (page_passes (test bound) (page_at pages bound)))
        | inr apart ↦
            let no : cond {A = ℕ} (page_passes (test bound) (page_at pages bound)) 1 0 ≡ 0 = ap (λ b. cond {A = ℕ} b 1 0) (not_here bound apart.1) in
            omega (arith, no, once_below bound)
      ]

  -- where none but one page's number passes, at most one page does
  pub once_where : pages_where test pages ≤ 1
  unfolding pages_where
  once_where = once_below (2 ^ 20)
