-- The loop over a text's characters: how it begins, goes on and ends.
use Rattle.std.proofs.Common.{◌≡◌, ◌≢◌, ℕ, ◌+◌, ◌<◌, ◌≤◌, ◌==◌, Bool, true, false, List, [], ◌∷◌, ◌++◌, map, length, get_or, drop, cond, arith, refl, sym, ap, ◌∙◌, append_assoc}
use Rattle.std.proofs.lemmas.List.{drop_all, append-nil, drop_more}
use Rattle.asm_values.specs.declared.datum.Datum.{Datum}
use Rattle.asm_values.specs.declared.datum.Datum.TheVariants.{Byte}
use Rattle.asm_values.specs.Directives.{unescaped, unescaped_after, escape}

pub unescaped_starts : (text : List ℕ) → map Byte (unescaped text) ≡ [] ++ map Byte (unescaped_after false text)
unfolding unescaped
unescaped_starts text = refl

pub unescaped_in_escape : (text : List ℕ) (bytes : List Datum) (behind : Bool) (i : ℕ)
    → map Byte (unescaped text) ≡ bytes ++ map Byte (unescaped_after behind (drop i text))
    → i < length text → behind ≡ true
    → map Byte (unescaped text) ≡ (bytes ++ Byte (escape (get_or text i 0)) ∷ []) ++ map Byte (unescaped_after false (drop (i + 1) text))
unfolding unescaped_after
unescaped_in_escape text bytes behind i so_far h is =
    so_far ∙ ap (λ b. bytes ++ map Byte (unescaped_after b (drop i text))) is
    ∙ ap (λ l. bytes ++ map Byte (unescaped_after true l)) (drop_more text i 0 h)
    ∙ sym (append_assoc bytes (Byte (escape (get_or text i 0)) ∷ []) (map Byte (unescaped_after false (drop (i + 1) text))))

pub unescaped_at_backslash : (text : List ℕ) (bytes : List Datum) (behind : Bool) (i : ℕ)
    → map Byte (unescaped text) ≡ bytes ++ map Byte (unescaped_after behind (drop i text))
    → i < length text → behind ≡ false → get_or text i 0 ≡ 92
    → map Byte (unescaped text) ≡ bytes ++ map Byte (unescaped_after true (drop (i + 1) text))
unfolding unescaped_after
unescaped_at_backslash text bytes behind i so_far h is backslash =
    so_far ∙ ap (λ b. bytes ++ map Byte (unescaped_after b (drop i text))) is
    ∙ ap (λ l. bytes ++ map Byte (unescaped_after false l)) (drop_more text i 0 h ∙ ap (λ c. c ∷ drop (i + 1) text) backslash)

pub unescaped_at_other : (text : List ℕ) (bytes : List Datum) (behind : Bool) (i : ℕ)
    → map Byte (unescaped text) ≡ bytes ++ map Byte (unescaped_after behind (drop i text))
    → i < length text → behind ≡ false → get_or text i 0 ≢ 92
    → map Byte (unescaped text) ≡ (bytes ++ Byte (get_or text i 0) ∷ []) ++ map Byte (unescaped_after false (drop (i + 1) text))
unfolding unescaped_after
unescaped_at_other text bytes behind i so_far h is other =
    let test : (get_or text i 0 == 92) ≡ false = grind arith in
    so_far ∙ ap (λ b. bytes ++ map Byte (unescaped_after b (drop i text))) is
    ∙ ap (λ l. bytes ++ map Byte (unescaped_after false l)) (drop_more text i 0 h)
    ∙ ap (λ b. bytes ++ map Byte (cond b (unescaped_after true (drop (i + 1) text)) (get_or text i 0 ∷ unescaped_after false (drop (i + 1) text)))) test
    ∙ sym (append_assoc bytes (Byte (get_or text i 0) ∷ []) (map Byte (unescaped_after false (drop (i + 1) text))))

pub unescaped_ends : (text : List ℕ) (bytes : List Datum) (behind : Bool) (i : ℕ)
    → map Byte (unescaped text) ≡ bytes ++ map Byte (unescaped_after behind (drop i text))
    → length text ≤ i → bytes ≡ map Byte (unescaped text)
unfolding unescaped_after
unescaped_ends text bytes behind i so_far h =
    sym (so_far ∙ ap (λ l. bytes ++ map Byte (unescaped_after behind l)) (drop_all i text h) ∙ none behind)
  where
    none : (b : Bool) → bytes ++ map Byte (unescaped_after b []) ≡ bytes
    none true = append-nil bytes
    none false = append-nil bytes
