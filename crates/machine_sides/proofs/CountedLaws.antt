-- Counts over the list, one more entry at a time.
use Rattle.std.proofs.Common.{◌≡◌, ◌≤◌, ℕ, zero, suc, ◌+◌, Bool, true, false, ◌&&◌, cond, List, [], ◌∷◌, length, take, Option, Some, None, slice_get, option_map, refl, ap, ◌∙◌, arith, add-one}
use Rattle.std.proofs.lemmas.List.{take_all}
use Rattle.clock_policy.specs.declared.key.Key.{Key}
use Rattle.clock_policy.specs.declared.entry.Entry.{Entry}
use Rattle.clock_policy.specs.declared.entry.EntryKind.{EntryKind}
use Rattle.clock_policy.specs.ClockPro.{number}
use Rattle.clock_policy.specs.Residents.{in_frame, is_resident_that}

module _ {A : Type 0} where
  -- nothing is behind a place where there is nothing
  pub taken_all : (xs : List A) (i : ℕ) → slice_get xs i ≡ None → take i xs ≡ xs
  taken_all [] zero h = refl
  taken_all [] (suc i) h = refl
  taken_all (z ∷ zs) zero h = cc
  taken_all (z ∷ zs) (suc i) h = ap (λ l. z ∷ l) (taken_all zs i h)

-- a count by a test is one by what the test is
pub one_by : (count : ℕ) (test now : Bool) → count ≡ cond test 1 0 → test ≡ now → count ≡ cond now 1 0
one_by count test now is same = is ∙ ap (λ (t : Bool). cond t 1 0) same

pub and_true : (b : Bool) → (b && true) ≡ b
and_true true = refl
and_true false = refl

-- one more entry that counts or not
number_more : (p : Entry → Bool) (es : List Entry) (i : ℕ) (e : Entry) → slice_get es i ≡ Some e → number p (take (suc i) es) ≡ number p (take i es) + cond (p e) 1 0
number_more p [] i e h = cc
number_more p (z ∷ zs) zero e h = let same : z ≡ e = cc in let w : ◌≡◌ {A = ℕ} (cond (p z) 1 0) (cond (p e) 1 0) = ap (λ (x : Entry). cond (p x) 1 0) same in omega (arith, w)
number_more p (z ∷ zs) (suc i) e h = omega (arith, number_more p zs i e h)

same_test : (r : Key → Bool) (e : Entry) (key : Key) (kind : EntryKind) → e.key ≡ key → e.kind ≡ kind → ◌≡◌ {A = ℕ} (cond (is_resident_that r e) 1 0) (cond (in_frame kind && r key) 1 0)
same_test r e key kind key_is kind_is =
    let first : ◌≡◌ {A = ℕ} (cond (in_frame e.kind && r e.key) 1 0) (cond (in_frame e.kind && r key) 1 0) = ap (λ (k : Key). cond (in_frame e.kind && r k) 1 0) key_is in
    let second : ◌≡◌ {A = ℕ} (cond (in_frame e.kind && r key) 1 0) (cond (in_frame kind && r key) 1 0) = ap (λ (k : EntryKind). cond (in_frame k && r key) 1 0) kind_is in
    first ∙ second

abbrev pub shown : Entry → Key × EntryKind
shown e = (e.key, e.kind)

-- the same of an entry that is read by its key and kind
pub entry_more : (r : Key → Bool) (es : List Entry) (i : ℕ) (key : Key) (kind : EntryKind) → option_map shown (slice_get es i) ≡ Some (key, kind)
    → number (is_resident_that r) (take (i + 1) es) ≡ number (is_resident_that r) (take i es) + cond (in_frame kind && r key) 1 0
entry_more r es i key kind h = by_entry (slice_get es i) refl h
  where
    by_entry : (o : Option Entry) → slice_get es i ≡ o → option_map shown o ≡ Some (key, kind)
        → number (is_resident_that r) (take (i + 1) es) ≡ number (is_resident_that r) (take i es) + cond (in_frame kind && r key) 1 0
    by_entry None at told = cc
    by_entry (Some e) at told =
        let pair : shown e ≡ (key, kind) = cc in
        let key_is : e.key ≡ key = ap (λ (p : Key × EntryKind). p.0) pair in
        let kind_is : e.kind ≡ kind = ap (λ (p : Key × EntryKind). p.1) pair in
        let test = same_test r e key kind key_is kind_is in
        let more = number_more (is_resident_that r) es i e at in
        rw add-one (omega (arith, more, test))

-- and where there is no further entry
entries_end : (es : List Entry) (i : ℕ) → option_map shown (slice_get es i) ≡ None → take i es ≡ es
entries_end es i h = by_entry (slice_get es i) refl h
  where
    by_entry : (o : Option Entry) → slice_get es i ≡ o → option_map shown o ≡ None → take i es ≡ es
    by_entry None at told = taken_all es i at
    by_entry (Some e) at told = cc

-- a count of a list's beginning is the whole list's, where that goes on no more
pub count_whole : (p : Entry → Bool) (es : List Entry) (i count : ℕ) → count ≡ number p (take i es) → length es ≤ i → count ≡ number p es
count_whole p es i count is few = is ∙ ap (number p) (take_all i es few)

pub count_end : (p : Entry → Bool) (es : List Entry) (i count : ℕ) → count ≡ number p (take i es) → option_map shown (slice_get es i) ≡ None → count ≡ number p es
count_end p es i count is none = is ∙ ap (number p) (entries_end es i none)
