-- How the moves change the number of entries of a sort.
use Rattle.std.specs.Prelude.{◌≡◌, ℕ, zero, suc, ◌+◌, ◌≤◌, ◌<◌, Bool, true, false, ◌||◌, cond, ◌⊎◌, Some, find, slice_get, List, [], ◌∷◌, ◌++◌, take, drop, set, filter, length, refl}
use Rattle.std.specs.List.{list_any}
use Rattle.std.proofs.Common.{arith, sym, ap, ◌∙◌, add-one, subst, inl, inr}
use Rattle.std.proofs.lemmas.List.{take-append-drop}
use Rattle.clock_policy.specs.declared.key.Key.{Key}
use Rattle.clock_policy.specs.declared.entry.Entry.{Entry}
use Rattle.clock_policy.specs.declared.entry.EntryKind.TheVariants.{Hot, Test, Cold, Shadow}
use Rattle.clock_policy.specs.ClockPro.{number, has_key, place, round, is_hot, is_cold, is_shadow, hot_count, cold_count, shadow_count, test_ended, tests_ended, trimmed_part, trimmed_list}
use Rattle.clock_policy.proofs.LookupLaws.{any_shadow}
use Rattle.clock_policy.proofs.ListedLaws.{has_key_refl}

-- Keys.

pub has_key_same : (k : Key) (e : Entry) → has_key k e ≡ true → (e.key.process ≡ k.process) × (e.key.vpn ≡ k.vpn)
has_key_same k e h = grind arith

pub has_key_sym : (n e : Entry) → has_key n.key e ≡ true → has_key e.key n ≡ true
has_key_sym n e h = grind (arith, has_key_same n.key e h)

-- Lists put together.

pub number-append : (p : Entry → Bool) (a b : List Entry) → number p (a ++ b) ≡ number p a + number p b
number-append p [] b = omega arith
number-append p (e ∷ es) b = omega (arith, number-append p es b)

pub number-split : (p : Entry → Bool) (i : ℕ) (l : List Entry) → number p (take i l) + number p (drop i l) ≡ number p l
number-split p i l = sym (number-append p (take i l) (drop i l)) ∙ ap (number p) (take-append-drop i l)

pub number-round : (p : Entry → Bool) (i : ℕ) (l : List Entry) → number p (round i l) ≡ number p l
number-round p i l = omega (arith, number-append p (drop i l) (take i l), number-split p i l)

-- the list without the entry at a place
pub number-without : (p : Entry → Bool) (x : Entry) (l : List Entry) (i : ℕ) → slice_get l i ≡ Some x → number p (take i l ++ drop (i + 1) l) + cond (p x) 1 0 ≡ number p l
number-without p x l i h = rw (add-one, number-append) (without p x l i h)
  where
    without : (p : Entry → Bool) (x : Entry) (l : List Entry) (i : ℕ) → slice_get l i ≡ Some x → number p (take i l) + number p (drop (suc i) l) + cond (p x) 1 0 ≡ number p l
    without p x [] i h = cc
    without p x (e ∷ es) zero h = let same : e ≡ x = cc in rw same (omega arith)
    without p x (e ∷ es) (suc i) h = omega (arith, without p x es i h)

pub number-without_le : (p : Entry → Bool) (l : List Entry) (i : ℕ) → number p (take i l ++ drop (i + 1) l) ≤ number p l
number-without_le p l i = rw (add-one, number-append) (without p l i)
  where
    without : (p : Entry → Bool) (l : List Entry) (i : ℕ) → number p (take i l) + number p (drop (suc i) l) ≤ number p l
    without p [] zero = omega arith
    without p [] (suc i) = omega arith
    without p (e ∷ es) zero = omega arith
    without p (e ∷ es) (suc i) = omega (arith, without p es i)

-- the list with another entry at a place
pub number-set : (p : Entry → Bool) (x y : Entry) (l : List Entry) (i : ℕ) → slice_get l i ≡ Some x → number p (set l i y) + cond (p x) 1 0 ≡ number p l + cond (p y) 1 0
number-set p x y [] i h = cc
number-set p x y (e ∷ es) zero h = let same : e ≡ x = cc in rw same (omega arith)
number-set p x y (e ∷ es) (suc i) h = omega (arith, number-set p x y es i h)

pub number-filter : (p q : Entry → Bool) (l : List Entry) → number p (filter q l) ≤ number p l
number-filter p q [] = omega arith
number-filter p q (e ∷ es) =
    elim (q e) as (λ t. number p (cond t (e ∷ filter q es) (filter q es)) ≤ cond (p e) 1 0 + number p es) [
      | true ↦ omega (arith, number-filter p q es)
      | false ↦ omega (arith, number-filter p q es)
    ]

-- Finding.

pub any_number : (q : Entry → Bool) (l : List Entry) → list_any q l ≡ true → 1 ≤ number q l
any_number q [] h = cc
any_number q (e ∷ es) h =
    elim (q e) as (λ t. t || list_any q es ≡ true → 1 ≤ cond t 1 0 + number q es) [
      | true ↦ λ _. omega arith
      | false ↦ λ g. omega (arith, any_number q es g)
    ] h

pub number_any : (q : Entry → Bool) (l : List Entry) → 1 ≤ number q l → list_any q l ≡ true
number_any q [] h = absurd (omega arith)
number_any q (e ∷ es) h =
    elim (q e) as (λ t. 1 ≤ cond t 1 0 + number q es → t || list_any q es ≡ true) [
      | true ↦ λ _. refl
      | false ↦ λ g. number_any q es (omega (arith, g))
    ] h

-- Entries that stand in a list.

abbrev pub IsIn : Entry → List Entry → Type 0
IsIn x [] = ⊥
IsIn x (e ∷ es) = (e ≡ x) ⊎ IsIn x es

pub found_in : (p : Entry → Bool) (l : List Entry) (x : Entry) → find p l ≡ Some x → IsIn x l
found_in p [] x h = cc
found_in p (e ∷ es) x h =
    elim (p e) as (λ t. cond t (Some e) (find p es) ≡ Some x → (e ≡ x) ⊎ IsIn x es) [
      | true ↦ λ g. inl cc
      | false ↦ λ g. inr (found_in p es x g)
    ] h

in_append_left : (x : Entry) (a b : List Entry) → IsIn x a → IsIn x (a ++ b)
in_append_left x [] b h = absurd h
in_append_left x (e ∷ es) b h = elim h [ inl g ↦ inl g | inr g ↦ inr (in_append_left x es b g) ]

in_append_right : (x : Entry) (a b : List Entry) → IsIn x b → IsIn x (a ++ b)
in_append_right x [] b h = h
in_append_right x (e ∷ es) b h = inr (in_append_right x es b h)

in_append : (x : Entry) (a b : List Entry) → IsIn x (a ++ b) → IsIn x (b ++ a)
in_append x [] b h = in_append_left x b [] h
in_append x (e ∷ es) b h =
    elim h [
      | inl g ↦ in_append_right x b (e ∷ es) (inl g)
      | inr g ↦ in_cons x e b es (in_append x es b g)
    ]
  where
    in_cons : (x e : Entry) (b es : List Entry) → IsIn x (b ++ es) → IsIn x (b ++ e ∷ es)
    in_cons x e [] es h = inr h
    in_cons x e (d ∷ ds) es h = elim h [ inl g ↦ inl g | inr g ↦ inr (in_cons x e ds es g) ]

pub in_round : (x : Entry) (i : ℕ) (l : List Entry) → IsIn x (round i l) → IsIn x l
in_round x i l h = subst (λ (m : List Entry). IsIn x m) (take-append-drop i l) (in_append x (drop i l) (take i l) h)

pub in_number : (x : Entry) (l : List Entry) → IsIn x l → 1 ≤ number (has_key x.key) l
in_number x [] h = absurd h
in_number x (e ∷ es) h =
    elim h [
      | inl g ↦ rw g (rw (has_key_refl x) (omega arith))
      | inr g ↦ omega (arith, in_number x es g)
    ]

-- where keys are distinct, the place of an entry's key is the entry's
pub place_holds : (x : Entry) (l : List Entry) → number (has_key x.key) l ≤ 1 → IsIn x l → slice_get l (place x.key l) ≡ Some x
place_holds x [] one h = absurd h
place_holds x (e ∷ es) one h =
    elim (has_key x.key e) as (λ t. has_key x.key e ≡ t → cond t 1 0 + number (has_key x.key) es ≤ 1 → slice_get (e ∷ es) (cond t 0 (suc (place x.key es))) ≡ Some x) [
      | true ↦ λ is few. elim h [ inl g ↦ ap (λ (d : Entry). Some d) g | inr g ↦ absurd (omega (arith, in_number x es g)) ]
      | false ↦ λ is few. elim h [
        | inl g ↦ let yes : has_key x.key e ≡ true = rw g (has_key_refl x) in cc
        | inr g ↦ place_holds x es (omega arith) g
      ]
    ] refl one

pub place_has : (k : Key) (l : List Entry) → place k l < length l → (x : Entry) × (slice_get l (place k l) ≡ Some x) × (has_key k x ≡ true)
place_has k [] h = absurd (omega arith)
place_has k (e ∷ es) h =
    elim (has_key k e) as (λ t. has_key k e ≡ t → cond t 0 (suc (place k es)) < suc (length es) → (x : Entry) × (slice_get (e ∷ es) (cond t 0 (suc (place k es))) ≡ Some x) × (has_key k x ≡ true)) [
      | true ↦ λ is within. (e, refl, is)
      | false ↦ λ is within. place_has k es (omega arith)
    ] refl h

-- Tests that end.

pub ended_count : (k : Key) (e : Entry) → number (has_key k) (test_ended e.kind e) ≤ cond (has_key k e) 1 0
ended_count k e =
    elim e.kind as (λ t. number (has_key k) (test_ended t e) ≤ cond (has_key k e) 1 0) [
      | Hot ↦ omega arith
      | Test ↦ omega arith
      | Cold ↦ omega arith
      | Shadow ↦ omega arith
    ]

pub keys-tests_ended : (k : Key) (l : List Entry) → number (has_key k) (tests_ended l) ≤ number (has_key k) l
keys-tests_ended k [] = omega arith
keys-tests_ended k (e ∷ es) = omega (arith, number-append (has_key k) (test_ended e.kind e) (tests_ended es), keys-tests_ended k es, ended_count k e)

pub hot_count-tests_ended : (l : List Entry) → hot_count (tests_ended l) ≡ hot_count l
hot_count-tests_ended [] = refl
hot_count-tests_ended (e ∷ es) =
    elim e.kind as (λ t. e.kind ≡ t → hot_count (test_ended t e ++ tests_ended es) ≡ cond (is_hot t) 1 0 + hot_count es) [
      | Hot ↦ λ h. rw h (omega (arith, hot_count-tests_ended es))
      | Test ↦ λ h. omega (arith, hot_count-tests_ended es)
      | Cold ↦ λ h. rw h (omega (arith, hot_count-tests_ended es))
      | Shadow ↦ λ h. omega (arith, hot_count-tests_ended es)
    ] refl

pub cold_count-tests_ended : (l : List Entry) → cold_count (tests_ended l) ≡ cold_count l
cold_count-tests_ended [] = refl
cold_count-tests_ended (e ∷ es) =
    elim e.kind as (λ t. e.kind ≡ t → cold_count (test_ended t e ++ tests_ended es) ≡ cond (is_cold t) 1 0 + cold_count es) [
      | Hot ↦ λ h. rw h (omega (arith, cold_count-tests_ended es))
      | Test ↦ λ h. omega (arith, cold_count-tests_ended es)
      | Cold ↦ λ h. rw h (omega (arith, cold_count-tests_ended es))
      | Shadow ↦ λ h. omega (arith, cold_count-tests_ended es)
    ] refl

pub shadow_count-tests_ended : (l : List Entry) → shadow_count (tests_ended l) ≡ 0
shadow_count-tests_ended [] = refl
shadow_count-tests_ended (e ∷ es) =
    elim e.kind as (λ t. e.kind ≡ t → shadow_count (test_ended t e ++ tests_ended es) ≡ 0) [
      | Hot ↦ λ h. rw h (omega (arith, shadow_count-tests_ended es))
      | Test ↦ λ h. omega (arith, shadow_count-tests_ended es)
      | Cold ↦ λ h. rw h (omega (arith, shadow_count-tests_ended es))
      | Shadow ↦ λ h. shadow_count-tests_ended es
    ] refl

-- Trimming.

pub keys-trimmed_part : (k : Key) (l : List Entry) → number (has_key k) (trimmed_part l) ≤ number (has_key k) l
keys-trimmed_part k [] = omega arith
keys-trimmed_part k (e ∷ es) =
    elim (is_shadow e.kind) as (λ t. number (has_key k) (cond t es (test_ended e.kind e ++ trimmed_part es)) ≤ cond (has_key k e) 1 0 + number (has_key k) es) [
      | true ↦ omega arith
      | false ↦ omega (arith, number-append (has_key k) (test_ended e.kind e) (trimmed_part es), keys-trimmed_part k es, ended_count k e)
    ]

pub hot_count-trimmed_part : (l : List Entry) → hot_count (trimmed_part l) ≡ hot_count l
hot_count-trimmed_part [] = refl
hot_count-trimmed_part (e ∷ es) =
    elim e.kind as (λ t. e.kind ≡ t → hot_count (cond (is_shadow t) es (test_ended t e ++ trimmed_part es)) ≡ cond (is_hot t) 1 0 + hot_count es) [
      | Hot ↦ λ h. rw h (omega (arith, hot_count-trimmed_part es))
      | Test ↦ λ h. omega (arith, hot_count-trimmed_part es)
      | Cold ↦ λ h. rw h (omega (arith, hot_count-trimmed_part es))
      | Shadow ↦ λ h. omega arith
    ] refl

pub cold_count-trimmed_part : (l : List Entry) → cold_count (trimmed_part l) ≡ cold_count l
cold_count-trimmed_part [] = refl
cold_count-trimmed_part (e ∷ es) =
    elim e.kind as (λ t. e.kind ≡ t → cold_count (cond (is_shadow t) es (test_ended t e ++ trimmed_part es)) ≡ cond (is_cold t) 1 0 + cold_count es) [
      | Hot ↦ λ h. rw h (omega (arith, cold_count-trimmed_part es))
      | Test ↦ λ h. omega (arith, cold_count-trimmed_part es)
      | Cold ↦ λ h. rw h (omega (arith, cold_count-trimmed_part es))
      | Shadow ↦ λ h. omega arith
    ] refl

pub shadow_count-trimmed_part : (l : List Entry) → shadow_count (trimmed_part l) + cond (any_shadow l) 1 0 ≡ shadow_count l
shadow_count-trimmed_part [] = refl
shadow_count-trimmed_part (e ∷ es) =
    elim e.kind as (λ t. e.kind ≡ t → shadow_count (cond (is_shadow t) es (test_ended t e ++ trimmed_part es)) + cond (is_shadow t || any_shadow es) 1 0 ≡ cond (is_shadow t) 1 0 + shadow_count es) [
      | Hot ↦ λ h. rw h (omega (arith, shadow_count-trimmed_part es))
      | Test ↦ λ h. omega (arith, shadow_count-trimmed_part es)
      | Cold ↦ λ h. rw h (omega (arith, shadow_count-trimmed_part es))
      | Shadow ↦ λ h. omega arith
    ] refl

-- the list trimmed from place i on, once round
pub keys-trimmed_list : (k : Key) (i : ℕ) (l : List Entry) → number (has_key k) (trimmed_list i l) ≤ number (has_key k) l
keys-trimmed_list k i l =
    elim (any_shadow (drop i l)) as (λ t. number (has_key k) (cond t (take i l ++ trimmed_part (drop i l)) (trimmed_part (take i l) ++ trimmed_part (drop i l))) ≤ number (has_key k) l) [
      | true ↦ omega (arith, number-append (has_key k) (take i l) (trimmed_part (drop i l)), keys-trimmed_part k (drop i l), number-split (has_key k) i l)
      | false ↦ omega (arith, number-append (has_key k) (trimmed_part (take i l)) (trimmed_part (drop i l)), keys-trimmed_part k (take i l), keys-trimmed_part k (drop i l), number-split (has_key k) i l)
    ]

pub hot_count-trimmed_list : (i : ℕ) (l : List Entry) → hot_count (trimmed_list i l) ≡ hot_count l
hot_count-trimmed_list i l =
    let p : Entry → Bool = λ e. is_hot e.kind in
    elim (any_shadow (drop i l)) as (λ t. hot_count (cond t (take i l ++ trimmed_part (drop i l)) (trimmed_part (take i l) ++ trimmed_part (drop i l))) ≡ hot_count l) [
      | true ↦ omega (arith, number-append p (take i l) (trimmed_part (drop i l)), hot_count-trimmed_part (drop i l), number-split p i l)
      | false ↦ omega (arith, number-append p (trimmed_part (take i l)) (trimmed_part (drop i l)), hot_count-trimmed_part (take i l), hot_count-trimmed_part (drop i l), number-split p i l)
    ]

pub cold_count-trimmed_list : (i : ℕ) (l : List Entry) → cold_count (trimmed_list i l) ≡ cold_count l
cold_count-trimmed_list i l =
    let p : Entry → Bool = λ e. is_cold e.kind in
    elim (any_shadow (drop i l)) as (λ t. cold_count (cond t (take i l ++ trimmed_part (drop i l)) (trimmed_part (take i l) ++ trimmed_part (drop i l))) ≡ cold_count l) [
      | true ↦ omega (arith, number-append p (take i l) (trimmed_part (drop i l)), cold_count-trimmed_part (drop i l), number-split p i l)
      | false ↦ omega (arith, number-append p (trimmed_part (take i l)) (trimmed_part (drop i l)), cold_count-trimmed_part (take i l), cold_count-trimmed_part (drop i l), number-split p i l)
    ]

-- a shadow goes, if there is one
pub shadow_count-trimmed_list : (i : ℕ) (l : List Entry) → 1 ≤ shadow_count l → shadow_count (trimmed_list i l) + 1 ≡ shadow_count l
shadow_count-trimmed_list i l some =
    let p : Entry → Bool = λ e. is_shadow e.kind in
    elim (any_shadow (drop i l)) as (λ t. any_shadow (drop i l) ≡ t → shadow_count (cond t (take i l ++ trimmed_part (drop i l)) (trimmed_part (take i l) ++ trimmed_part (drop i l))) + 1 ≡ shadow_count l) [
      | true ↦ λ h. omega (arith, number-append p (take i l) (trimmed_part (drop i l)), (rw h at (shadow_count-trimmed_part (drop i l))), number-split p i l)
      | false ↦ λ h.
          let none : shadow_count (drop i l) ≡ 0 = no_shadow (drop i l) h in
          let first : any_shadow (take i l) ≡ true = number_any p (take i l) (omega (arith, number-split p i l)) in
          omega (arith, number-append p (trimmed_part (take i l)) (trimmed_part (drop i l)), (rw first at (shadow_count-trimmed_part (take i l))), (rw h at (shadow_count-trimmed_part (drop i l))), number-split p i l)
    ] refl
  where
    no_shadow : (l : List Entry) → any_shadow l ≡ false → shadow_count l ≡ 0
    no_shadow [] h = refl
    no_shadow (e ∷ es) h =
        elim (is_shadow e.kind) as (λ t. t || any_shadow es ≡ false → cond t 1 0 + shadow_count es ≡ 0) [
          | true ↦ λ g. cc
          | false ↦ λ g. omega (arith, no_shadow es g)
        ] h
