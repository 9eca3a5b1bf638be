-- The saves that are out: one is found by its page, and taken.
use Rattle.std.proofs.Common.{◌≡◌, ℕ, suc, ◌+◌, ◌≤◌, ◌==◌, ◌&&◌, Bool, true, false, not, cond, nat_lt, List, [], ◌∷◌, length, Some, None, slice_index_or, position, swap_remove, IsPermutation, inl, inr, refl, sym, ap, ◌∙◌, arith, subst}
use Rattle.std.specs.List.{position_or_len, sum_by}
use Rattle.std.proofs.lemmas.Bool.Decides.{eqb_tells}
use Rattle.std.proofs.lemmas.List.Quantifiers.{position-Some}
use Rattle.std.proofs.lemmas.List.Sorted.{IsPermutation-swap_remove, sum_by-IsPermutation}
use Rattle.std.proofs.lemmas.List.Sums.{sum_by-cons}
use borrow.Author.Tests.{eqb-true}
use Rattle.clock_policy.specs.declared.key.Key.{Key}
use Rattle.clock_policy.specs.Residents.{is_key}
use Rattle.page_store.specs.JobValue.{JobValue}
use Rattle.machine_core.specs.Machine.{total, jobs_where}
use Rattle.machine_core.specs.SavingOut.{is_save_of}
use Rattle.machine_sides.specs.Together.{key_of}

pub both_true : (a b : Bool) → a && b ≡ true → (a ≡ true) × (b ≡ true)
both_true true true h = (refl, refl)
both_true true false h = cc
both_true false b h = cc

pub same_key : (key : Key) (process vpn : ℕ) → process ≡ key.process → vpn ≡ key.vpn → is_key key (key_of process vpn) ≡ true
same_key key process vpn p v =
    elim (eqb_tells process key.process) [
      | inl same ↦ elim (eqb_tells vpn key.vpn) [
        | inl here ↦ ap (λ b. b && (vpn == key.vpn)) same.0 ∙ here.0
        | inr other ↦ absurd (other.1 v)
      ]
      | inr apart ↦ absurd (apart.1 p)
    ]

-- ---- sums of a list that is taken apart

total_sum : {A : Type 0} (f : A → ℕ) (xs : List A) → total f xs ≡ sum_by f xs
unfolding total
total_sum f [] = refl
total_sum f (x ∷ xs) = ap (λ n. f x + n) (total_sum f xs) ∙ sym (sum_by-cons f x xs)

pub total_permuted : {A : Type 0} (f : A → ℕ) (xs ys : List A) → IsPermutation xs ys → total f ys ≡ total f xs
total_permuted f xs ys moved = total_sum f ys ∙ sum_by-IsPermutation f xs ys moved ∙ sym (total_sum f xs)

module _ {S : Type 0} where
  pub record Taken (key : Key) (jobs jobs' : List (JobValue S)) (job : JobValue S) : Type 0 where
    pub permuted : IsPermutation jobs (job ∷ jobs')
    pub process : job.process ≡ key.process
    pub page : job.vpn ≡ key.vpn

  pub taken_at : (key : Key) (jobs jobs' : List (JobValue S)) (place : ℕ) (job : JobValue S) → position (is_save_of key) jobs ≡ Some place → job ≡ slice_index_or jobs place job → jobs' ≡ swap_remove jobs place job → Taken key jobs jobs' job
  taken_at key jobs jobs' place job at value items =
      let found = position-Some (is_save_of key) jobs place job at in
      let is : is_save_of key job ≡ true = ap (is_save_of key) value ∙ found.1 in
      let parts = both_true (job.process == key.process) (job.vpn == key.vpn) is in
      record {
        permuted = subst (λ l. IsPermutation jobs (job ∷ l)) (sym items) (IsPermutation-swap_remove jobs place job found.0 value);
        process = eqb-true job.process key.process parts.0;
        page = eqb-true job.vpn key.vpn parts.1;
      }

  none_passes : (key : Key) (jobs : List (JobValue S)) → length jobs ≤ position_or_len (is_save_of key) jobs → jobs_where (is_key key) jobs ≡ 0
  unfolding jobs_where total
  none_passes key [] long = refl
  none_passes key (job ∷ jobs) long = by_test (is_save_of key job) (none_passes key jobs) long
    where
      by_test : (b : Bool) → (length jobs ≤ position_or_len (is_save_of key) jobs → jobs_where (is_key key) jobs ≡ 0) → suc (length jobs) ≤ cond (not b) (1 + position_or_len (is_save_of key) jobs) 0 → cond b 1 0 + jobs_where (is_key key) jobs ≡ 0
      by_test true rest long = absurd (omega arith)
      by_test false rest long = let less = rest (omega arith) in omega (arith, less)

  pub none_found : (key : Key) (jobs : List (JobValue S)) → position (is_save_of key) jobs ≡ None → jobs_where (is_key key) jobs ≡ 0
  none_found key jobs none = none_passes key jobs (by_test (nat_lt (position_or_len (is_save_of key) jobs) (length jobs)) refl none)
    where
      at_least : (m n : ℕ) → nat_lt m n ≡ false → n ≤ m
      at_least m n is = grind (arith, is)

      by_test : (b : Bool) → nat_lt (position_or_len (is_save_of key) jobs) (length jobs) ≡ b → cond b (Some (position_or_len (is_save_of key) jobs)) None ≡ None → length jobs ≤ position_or_len (is_save_of key) jobs
      by_test true is h = cc
      by_test false is h = at_least (position_or_len (is_save_of key) jobs) (length jobs) is
