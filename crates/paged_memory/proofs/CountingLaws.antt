-- What becomes of the number of pages that pass a test where one page changes.
use Rattle.std.proofs.Common.{◌≡◌, ℕ, zero, suc, ◌+◌, ◌^◌, ◌<◌, ◌≤◌, ◌==◌, Bool, true, false, cond, Some, List, arith, refl, sym, ap, ◌∙◌, inl, inr}
use Rattle.std.specs.Prelude.{◌⊎◌}
use Rattle.std.proofs.lemmas.Bool.Decides.{eqb_tells}
use Rattle.page_store.specs.PageValue.{PageValue}
use Rattle.paged_memory.specs.Paged.{page_at, ChangesPage}
use Rattle.paged_memory.specs.Counting.{page_passes, pages_below, pages_where}

module _ {S : Type 0} (test : ℕ → PageValue S → Bool) where
  abbrev passes_at : List (ℕ × PageValue S) → ℕ → Bool
  passes_at pages number = page_passes (test number) (page_at pages number)

  same_below : (old new : List (ℕ × PageValue S)) (bound : ℕ) → ((number : ℕ) → number < bound → passes_at new number ≡ passes_at old number) → pages_below test new bound ≡ pages_below test old bound
  unfolding pages_below
  same_below old new zero same = refl
  same_below old new (suc bound) same =
      let here : cond {A = ℕ} (passes_at new bound) 1 0 ≡ cond (passes_at old bound) 1 0 = ap (λ b. cond b 1 0) (same bound (omega arith)) in
      let rest = same_below old new bound (λ number below. same number (omega arith)) in
      omega (arith, here, rest)

  -- pages that pass where they passed are as many
  pub same_where_pass : (old new : List (ℕ × PageValue S)) → ((number : ℕ) → number < 2 ^ 20 → passes_at new number ≡ passes_at old number) → pages_where test new ≡ pages_where test old
  unfolding pages_where
  same_where_pass old new same = same_below old new (2 ^ 20) same

  none_below : (pages : List (ℕ × PageValue S)) (bound : ℕ) → ((number : ℕ) → number < bound → passes_at pages number ≡ false) → pages_below test pages bound ≡ 0
  unfolding pages_below
  none_below pages zero none = refl
  none_below pages (suc bound) none =
      let here : cond {A = ℕ} (passes_at pages bound) 1 0 ≡ 0 = ap (λ b. cond b 1 0) (none bound (omega arith)) in
      let rest = none_below pages bound (λ number below. none number (omega arith)) in
      omega (arith, here, rest)

  -- where none passes there are none
  pub none_where_pass : (pages : List (ℕ × PageValue S)) → ((number : ℕ) → number < 2 ^ 20 → passes_at pages number ≡ false) → pages_where test pages ≡ 0
  unfolding pages_where
  none_where_pass pages none = none_below pages (2 ^ 20) none

  some_below : (pages : List (ℕ × PageValue S)) (bound number : ℕ) → number < bound → passes_at pages number ≡ true → 1 ≤ pages_below test pages bound
  unfolding pages_below
  some_below pages zero number below is = absurd (omega (arith, below))
  some_below pages (suc bound) number below is = by_number (eqb_tells number bound) (λ less. some_below pages bound number less is)
    where
      by_number : (((number == bound) ≡ true) × (number ≡ bound)) ⊎ (((number == bound) ≡ false) × ((number ≡ bound) → ⊥)) → (number < bound → 1 ≤ pages_below test pages bound) → 1 ≤ pages_below test pages (suc bound)
      by_number (inl at) more =
          let here : cond {A = ℕ} (passes_at pages bound) 1 0 ≡ 1 = ap (λ b. cond b 1 0) (ap (passes_at pages) (sym at.1) ∙ is) in
          omega (arith, here)
      by_number (inr apart) more = let rest = more (let ne = apart.1 in omega (arith, ne, below)) in omega (arith, rest)

  -- where one passes there is one
  pub some_where_pass : (pages : List (ℕ × PageValue S)) (number : ℕ) → number < 2 ^ 20 → passes_at pages number ≡ true → 1 ≤ pages_where test pages
  unfolding pages_where
  some_where_pass pages number small is = some_below pages (2 ^ 20) number small is

  -- and where there is none, none passes
  pub no_where_pass : (pages : List (ℕ × PageValue S)) → pages_where test pages ≡ 0 → (number : ℕ) → number < 2 ^ 20 → passes_at pages number ≡ false
  no_where_pass pages none number small = by_test (passes_at pages number) refl
    where
      by_test : (b : Bool) → passes_at pages number ≡ b → passes_at pages number ≡ false
      by_test true is = let one = some_where_pass pages number small is in absurd (omega (arith, one, none))
      by_test false is = is

  module _ (old new : List (ℕ × PageValue S)) (v : ℕ) (page page' : PageValue S) (found : page_at old v ≡ Some page) (changes : ChangesPage old new v page') where
    other_passes : (number : ℕ) → (number == v) ≡ false → passes_at new number ≡ passes_at old number
    other_passes number apart = ap (page_passes (test number)) (changes.pages number ∙ ap (λ b. cond b (Some page') (page_at old number)) apart)

    here_now : (number : ℕ) → (number == v) ≡ true → number ≡ v → passes_at new number ≡ test v page'
    here_now number here same = ap (page_passes (test number)) (changes.pages number ∙ ap (λ b. cond b (Some page') (page_at old number)) here) ∙ ap (λ n. test n page') same

    here_then : (number : ℕ) → number ≡ v → passes_at old number ≡ test v page
    here_then number same = ap (passes_at old) same ∙ ap (page_passes (test v)) found

    changed_below : (bound : ℕ) → v < bound → pages_below test new bound + cond (test v page) 1 0 ≡ pages_below test old bound + cond (test v page') 1 0
    unfolding pages_below
    changed_below zero below = absurd (omega arith)
    changed_below (suc bound) below = by_number (eqb_tells bound v) (λ less. changed_below bound less)
      where
        by_number : (((bound == v) ≡ true) × (bound ≡ v)) ⊎ (((bound == v) ≡ false) × ((bound ≡ v) → ⊥)) → (v < bound → pages_below test new bound + cond (test v page) 1 0 ≡ pages_below test old bound + cond (test v page') 1 0) → pages_below test new (suc bound) + cond (test v page) 1 0 ≡ pages_below test old (suc bound) + cond (test v page') 1 0
        by_number (inl at) more =
            let now : cond {A = ℕ} (passes_at new bound) 1 0 ≡ cond (test v page') 1 0 = ap (λ b. cond b 1 0) (here_now bound at.0 at.1) in
            let was : cond {A = ℕ} (passes_at old bound) 1 0 ≡ cond (test v page) 1 0 = ap (λ b. cond b 1 0) (here_then bound at.1) in
            let same = at.1 in
            let rest = same_below old new bound (λ number less. apart number less) in
            omega (arith, now, was, rest)
          where
            apart : (number : ℕ) → number < bound → passes_at new number ≡ passes_at old number
            apart number less = by_other (eqb_tells number v)
              where
                by_other : (((number == v) ≡ true) × (number ≡ v)) ⊎ (((number == v) ≡ false) × ((number ≡ v) → ⊥)) → passes_at new number ≡ passes_at old number
                by_other (inl is) = let one = is.1 in let two = at.1 in absurd (omega (arith, less, one, two))
                by_other (inr is) = other_passes number is.0
        by_number (inr apart) more =
            let same : cond {A = ℕ} (passes_at new bound) 1 0 ≡ cond (passes_at old bound) 1 0 = ap (λ b. cond b 1 0) (other_passes bound apart.0) in
            let less : v < bound = let ne = apart.1 in omega (arith, ne, below) in
            let rest = more less in
            omega (arith, same, rest)

    -- where one page changes, it alone counts anew
    pub pages_changed : v < 2 ^ 20 → pages_where test new + cond (test v page) 1 0 ≡ pages_where test old + cond (test v page') 1 0
    unfolding pages_where
    pages_changed small = changed_below (2 ^ 20) small
