-- The numbers of words that are kept in vectors: proofs.
use Rattle.std.specs.Prelude.{◌≡◌, ℕ, ◌+◌, ◌<◌, ◌||◌, Bool, true, false, cond, not, nat_lt, List, [], ◌∷◌, ◌++◌, length, map, position, Some, None, if◌then◌else◌, refl}
use Rattle.std.specs.List.{list_any, position_or_len}
use Rattle.std.proofs.Common.{arith, ap, sym, ◌∙◌}
use Rattle.std.proofs.lemmas.Bool.Decides.{nat_tests}
use Rattle.trace_files.specs.WordNumbers.{is_same_word, number_of, with_word}

module _ {K : Type 0} (text : K → List ℕ) where
  placed : (word : List ℕ) (keys : List K) → number_of word (map text keys) ≡ position_or_len (λ k. is_same_word word (text k)) keys
  placed word [] = refl
  placed word (k ∷ keys) = ap (λ (n : ℕ). cond (not (is_same_word word (text k))) (1 + n) 0) (placed word keys)

  among : (word : List ℕ) (keys : List K) → list_any (is_same_word word) (map text keys) ≡ list_any (λ k. is_same_word word (text k)) keys
  among word [] = refl
  among word (k ∷ keys) = ap (λ (b : Bool). is_same_word word (text k) || b) (among word keys)

  pushed : (keys : List K) (k : K) → map text (keys ++ k ∷ []) ≡ map text keys ++ text k ∷ []
  pushed [] k = refl
  pushed (j ∷ keys) k = ap (λ (l : List (List ℕ)). text j ∷ l) (pushed keys k)

  -- a key that is put in, unless an equal one is there
  pub put_in : (keys : List K) (k : K) → map text (if list_any (λ j. is_same_word (text k) (text j)) keys then keys else keys ++ k ∷ []) ≡ with_word (text k) (map text keys)
  put_in keys k =
      by_test (list_any (λ j. is_same_word (text k) (text j)) keys)
      ∙ ap (λ (b : Bool). if b then map text keys else map text keys ++ text k ∷ []) (sym (among (text k) keys))
    where
      by_test : (b : Bool) → map text (if b then keys else keys ++ k ∷ []) ≡ (if b then map text keys else map text keys ++ text k ∷ [])
      by_test true = refl
      by_test false = pushed keys k

  pub put_at : (keys : List K) (k : K) → position_or_len (λ j. is_same_word (text k) (text j)) keys ≡ number_of (text k) (map text keys)
  put_at keys k = sym (placed (text k) keys)

  there : (test : K → Bool) (keys : List K) → position_or_len test keys < length keys → list_any test keys ≡ true
  there test [] h = absurd (omega (arith, h))
  there test (k ∷ keys) h = by_test (test k) refl (there test keys)
    where
      by_test : (b : Bool) → test k ≡ b → (position_or_len test keys < length keys → list_any test keys ≡ true) → list_any test (k ∷ keys) ≡ true
      by_test true e later = rw e refl
      by_test false e later =
          let more : position_or_len test (k ∷ keys) ≡ 1 + position_or_len test keys = rw e refl in
          rw e (later (omega (arith, more, h)))

  module _ (word : List ℕ) (keys : List K) (i : ℕ) (found : Some i ≡ position (λ k. is_same_word word (text k)) keys) where
    abbrev test : K → Bool
    test k = is_same_word word (text k)

    within : (position_or_len test keys < length keys) × (i ≡ position_or_len test keys)
    within = by_test (nat_lt (position_or_len test keys) (length keys)) refl found
      where
        by_test : (b : Bool) → nat_lt (position_or_len test keys) (length keys) ≡ b → Some i ≡ cond b (Some (position_or_len test keys)) None
            → (position_or_len test keys < length keys) × (i ≡ position_or_len test keys)
        by_test true e is = (grind (arith, nat_tests), cc)
        by_test false e is = cc

    -- a word that came has its number, and the words stay
    pub found_number : i ≡ number_of word (map text keys)
    found_number = within.1 ∙ sym (placed word keys)

    pub found_words : map text keys ≡ with_word word (map text keys)
    found_words = sym (ap (λ (b : Bool). if b then map text keys else map text keys ++ word ∷ []) (among word keys ∙ there test keys within.0))
