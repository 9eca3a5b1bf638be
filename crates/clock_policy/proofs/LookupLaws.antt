-- Counting and looking up, in std's words.
use Rattle.std.specs.Prelude.{◌≡◌, ℕ, suc, ◌+◌, length, Bool, true, false, cond, ◌||◌, Option, Some, find, List, [], ◌∷◌, ◌++◌, take, drop, count_by, refl}
use Rattle.std.specs.List.{list_any}
use Rattle.std.specs.Option.{option_or}
use Rattle.std.proofs.Common.{arith, ◌∙◌, add-zero}
use Rattle.std.proofs.lemmas.List.Recursion.{is_sum_by}
use Rattle.std.proofs.lemmas.List.Folds.{find-append}
use Rattle.clock_policy.specs.declared.key.Key.{Key}
use Rattle.clock_policy.specs.declared.entry.Entry.{Entry}
use Rattle.clock_policy.specs.declared.entry.EntryKind.TheVariants.{Hot, Test, Cold, Shadow}
use Rattle.clock_policy.specs.ClockPro.{number, found_key, place_of, round, stays_in, settled, is_hot, is_cold, is_shadow, hot_count, cold_count, shadow_count, is_in_test, trimmed_tests, trimmed_part, trimmed_list}

pub number_is : (p : Entry → Bool) (l : List Entry) → number p l ≡ count_by p l
number_is p l = is_sum_by (number p) (λ e. cond (p e) 1 0) refl (λ _ _. refl) l

pub key_of-find-append : (p : Entry → Bool) (a b : List Entry) → found_key (find p (a ++ b)) ≡ option_or (found_key (find p a)) (found_key (find p b))
key_of-find-append p [] b = refl
key_of-find-append p (e ∷ es) b =
    elim (p e) as (λ t. found_key (cond t (Some e) (find p (es ++ b))) ≡ option_or (found_key (cond t (Some e) (find p es))) (found_key (find p b))) [
      | true ↦ refl
      | false ↦ key_of-find-append p es b
    ]

pub settled_halves : (old new : List Entry) (hand : Option Key) → settled old new hand
    ≡ option_or (found_key (find (stays_in new) (drop (place_of hand old) old))) (found_key (find (stays_in new) (take (place_of hand old) old)))
unfolding settled
settled_halves old new hand = key_of-find-append (stays_in new) (drop (place_of hand old) old) (take (place_of hand old) old)

pub cold_halves : (hand : Option Key) (l : List Entry) → find (λ e. is_cold e.kind) (round (place_of hand l) l)
    ≡ option_or (find (λ e. is_cold e.kind) (drop (place_of hand l) l)) (find (λ e. is_cold e.kind) (take (place_of hand l) l))
cold_halves hand l = find-append (λ e. is_cold e.kind) (drop (place_of hand l) l) (take (place_of hand l) l)

abbrev pub any_shadow : List Entry → Bool
any_shadow l = list_any (λ e. is_shadow e.kind) l

pub trimmed_tests-append : (a b : List Entry) → trimmed_tests (a ++ b) ≡ trimmed_tests a + cond (any_shadow a) 0 (trimmed_tests b)
trimmed_tests-append [] b = omega arith
trimmed_tests-append (e ∷ es) b =
    elim (is_shadow e.kind) as (λ t. cond t 1 (cond (is_in_test e.kind) 1 0 + trimmed_tests (es ++ b)) ≡ cond t 1 (cond (is_in_test e.kind) 1 0 + trimmed_tests es) + cond (t || any_shadow es) 0 (trimmed_tests b)) [
      | true ↦ omega arith
      | false ↦ omega (arith, trimmed_tests-append es b)
    ]

pub round_tests_then : (i : ℕ) (l : List Entry) → any_shadow (drop i l) ≡ true → trimmed_tests (round i l) ≡ trimmed_tests (drop i l)
round_tests_then i l h = trimmed_tests-append (drop i l) (take i l) ∙ rw h (add-zero _)

pub round_tests_else : (i : ℕ) (l : List Entry) → any_shadow (drop i l) ≡ false → trimmed_tests (round i l) ≡ trimmed_tests (take i l) + trimmed_tests (drop i l)
round_tests_else i l h = trimmed_tests-append (drop i l) (take i l) ∙ rw h (omega arith)

pub trimmed_list_then : (i : ℕ) (l : List Entry) → any_shadow (drop i l) ≡ true → trimmed_list i l ≡ take i l ++ trimmed_part (drop i l)
trimmed_list_then i l h = rw h refl

pub trimmed_list_else : (i : ℕ) (l : List Entry) → any_shadow (drop i l) ≡ false → trimmed_list i l ≡ trimmed_part (take i l) ++ trimmed_part (drop i l)
trimmed_list_else i l h = rw h refl

pub shadow_halves : (i : ℕ) (l : List Entry) → found_key (find (λ e. is_shadow e.kind) (round i l))
    ≡ option_or (found_key (find (λ e. is_shadow e.kind) (drop i l))) (found_key (find (λ e. is_shadow e.kind) (take i l)))
shadow_halves i l = key_of-find-append (λ e. is_shadow e.kind) (drop i l) (take i l)

pub any_halves : (i : ℕ) (l : List Entry) → found_key (find (λ _. true) (round i l))
    ≡ option_or (found_key (find (λ _. true) (drop i l))) (found_key (find (λ _. true) (take i l)))
any_halves i l = key_of-find-append (λ _. true) (drop i l) (take i l)

-- each entry is hot, cold or a shadow
pub length_is : (l : List Entry) → length l ≡ hot_count l + cold_count l + shadow_count l
length_is [] = refl
length_is (e ∷ es) =
    elim e.kind as (λ k. suc (length es) ≡ cond (is_hot k) 1 0 + hot_count es + (cond (is_cold k) 1 0 + cold_count es) + (cond (is_shadow k) 1 0 + shadow_count es)) [
      | Hot ↦ omega (arith, length_is es)
      | Test ↦ omega (arith, length_is es)
      | Cold ↦ omega (arith, length_is es)
      | Shadow ↦ omega (arith, length_is es)
    ]
