-- Entries of pages that are there, over several processes: where they are all of the list's, the list has no other.
use Rattle.std.proofs.Common.{◌≡◌, ℕ, suc, ◌+◌, ◌≤◌, ◌==◌, nat_lt, Bool, true, false, ◌&&◌, ◌||◌, cond, List, [], ◌∷◌, Some, slice_get, refl, sym, ap, ◌∙◌, arith}
use Rattle.std.specs.Prelude.{⊤}
use Rattle.std.proofs.lemmas.Bool.Decides.{nat_tests}
use borrow.Author.Tests.{eqb-true, lt-ltb}
use Rattle.clock_policy.proofs.AdmitLaws.{one_key}
use Rattle.clock_policy.specs.declared.key.Key.{Key}
use Rattle.clock_policy.specs.declared.entry.Entry.{Entry}
use Rattle.clock_policy.specs.ClockPro.{number}
use Rattle.clock_policy.specs.Residents.{in_frame, is_resident_that, is_key}
use Rattle.machine_sides.specs.Auditing.{total}
use Rattle.machine_sides.proofs.EntryLaws.{both, apart_numbers, less_numbers}

below_more : (p n : ℕ) → nat_lt p n ≡ true → nat_lt p (n + 1) ≡ true
below_more p n h = grind (arith, nat_tests)

here_more : (p n : ℕ) → (p == n) ≡ true → nat_lt p (n + 1) ≡ true
here_more p n h = let e = eqb-true p n h in lt-ltb p (n + 1) (omega (arith, e))

here_not : (p n : ℕ) → (p == n) ≡ true → nat_lt p n ≡ false
here_not p n h = let e = eqb-true p n h in grind (arith, nat_tests)

module _ {A : Type 0} (process_of : A → ℕ) (there : A → ℕ → Bool) where
  abbrev of_item : A → Key → Bool
  of_item x k = (k.process == process_of x) && there x k.vpn

  -- a key is below a process's number, or is this one
  abbrev before : ℕ → Key → Key → Bool
  before n key k = nat_lt k.process n || is_key key k

  one_apart : (x : A) (n : ℕ) (key k : Key) (f : Bool) → process_of x ≡ n → of_item x key ≡ false
      → cond {A = ℕ} (f && of_item x k) 1 0 + cond (f && before n key k) 1 0 ≤ cond (f && before (n + 1) key k) 1 0
  one_apart x n key k f own avoids =
      by_bools f (k.process == process_of x) (there x k.vpn) (nat_lt k.process n) (nat_lt k.process (n + 1)) (is_key key k)
      (λ h. here_not k.process n (ap (λ m. k.process == m) (sym own) ∙ h)) (λ h. here_more k.process n (ap (λ m. k.process == m) (sym own) ∙ h)) (below_more k.process n)
      (λ h l. not_both (is_key key k) refl (both (k.process == process_of x) (there x k.vpn) h))
    where
      not_both : (c : Bool) → is_key key k ≡ c → ((k.process == process_of x) ≡ true) × (there x k.vpn ≡ true) → is_key key k ≡ false
      not_both false is h = is
      not_both true is h =
          let parts = both (k.process == key.process) (k.vpn == key.vpn) is in
          let same : k ≡ key = one_key k key (eqb-true k.process key.process parts.0) (eqb-true k.vpn key.vpn parts.1) in
          let one : of_item x key ≡ true = ap (of_item x) (sym same) ∙ whole (k.process == process_of x) (there x k.vpn) h.0 h.1 in
          cc
        where
          whole : (a b : Bool) → a ≡ true → b ≡ true → a && b ≡ true
          whole true true h k = refl
          whole true false h k = cc
          whole false b h k = cc

      by_bools : (f a r b b' c : Bool) → (a ≡ true → b ≡ false) → (a ≡ true → b' ≡ true) → (b ≡ true → b' ≡ true) → (a && r ≡ true → ⊤ → c ≡ false)
          → cond {A = ℕ} (f && (a && r)) 1 0 + cond (f && (b || c)) 1 0 ≤ cond (f && (b' || c)) 1 0
      by_bools false a r b b' c h k l m = omega arith
      by_bools true true true true b' c h k l m = let no = h refl in cc
      by_bools true true true false true true h k l m = let no = m refl tt in cc
      by_bools true true true false true false h k l m = omega arith
      by_bools true true true false false c h k l m = let no = k refl in cc
      by_bools true true false true true c h k l m = omega arith
      by_bools true true false true false c h k l m = let no = l refl in cc
      by_bools true true false false true true h k l m = omega arith
      by_bools true true false false true false h k l m = omega arith
      by_bools true true false false false c h k l m = omega arith
      by_bools true false r true true c h k l m = omega arith
      by_bools true false r true false c h k l m = let no = l refl in cc
      by_bools true false r false true true h k l m = omega arith
      by_bools true false r false true false h k l m = omega arith
      by_bools true false r false false c h k l m = omega arith

  -- items are numbered from one on
  unfoldable pub Numbered : ℕ → List A → Type 0
  Numbered n [] = ⊤
  Numbered n (x ∷ xs) = (process_of x ≡ n) × Numbered (n + 1) xs

  pub all_apart : (key : Key) (es : List Entry) (n : ℕ) (xs : List A) → Numbered n xs → ((i : ℕ) (x : A) → slice_get xs i ≡ Some x → of_item x key ≡ false)
      → total (λ x. number (is_resident_that (of_item x)) es) xs + number (is_resident_that (before n key)) es ≤ number (is_resident_that (λ _. true)) es
  unfolding total Numbered
  all_apart key es n [] numbered avoid =
      let less = less_numbers (is_resident_that (before n key)) (is_resident_that (λ _. true)) es (λ e h. framed (in_frame e.kind) (before n key e.key) h) in
      omega (arith, less)
    where
      framed : (f b : Bool) → f && b ≡ true → f && true ≡ true
      framed true b h = refl
      framed false b h = cc
  all_apart key es n (x ∷ xs) numbered avoid =
      let rest = all_apart key es (n + 1) xs numbered.1 (λ i y at. avoid (suc i) y at) in
      let here = apart_numbers (is_resident_that (of_item x)) (is_resident_that (before n key)) (is_resident_that (before (n + 1) key)) es
      (λ e. one_apart x n key e.key (in_frame e.kind) numbered.0 (avoid 0 x refl)) in
      omega (arith, rest, here)

  -- the list has no entry of another key
  pub no_other : (key : Key) (es : List Entry) (xs : List A) → Numbered 0 xs → ((i : ℕ) (x : A) → slice_get xs i ≡ Some x → of_item x key ≡ false)
      → number (is_resident_that (λ _. true)) es ≤ total (λ x. number (is_resident_that (of_item x)) es) xs → number (is_resident_that (is_key key)) es ≡ 0
  no_other key es xs numbered avoid all =
      let apart = all_apart key es 0 xs numbered avoid in
      let own = less_numbers (is_resident_that (is_key key)) (is_resident_that (before 0 key)) es (λ e h. or_so (in_frame e.kind) (nat_lt e.key.process 0) (is_key key e.key) h) in
      omega (arith, apart, own, all)
    where
      or_so : (f b c : Bool) → f && c ≡ true → f && (b || c) ≡ true
      or_so true true c h = refl
      or_so true false c h = h
      or_so false b c h = cc
