-- The last part of a name.
use Rattle.std.proofs.Common.{◌≡◌, ◌==◌, ◌∙◌, ◌++◌, ◌∷◌, ℕ, List, Option, Some, None, inl, inr, take, drop, Bor, refl, ap, sym, subst, arith}
use Rattle.std.specs.Option.{MatchOption}
use Rattle.std.specs.Str.{NoCharPasses}
use Rattle.std.specs.Str.Pattern.{RFindsChar, SplitsAroundMatch}
use Rattle.std.proofs.lemmas.List.{take-append-drop}
use Rattle.std.proofs.lemmas.Str.Pattern.{NoCharPasses-char, drop_at_char}
use Rattle.guest_words.specs.Words.{IsLastPart}

-- what the last slash parts
pub last_split : (name : List ℕ) (r : Option (Bor (List ℕ) × Bor (List ℕ))) → MatchOption r (RFindsChar 47 name None) (λ x. SplitsAroundMatch (RFindsChar 47) name x.0.now x.1.now)
    → MatchOption r (IsLastPart name name) (λ x. IsLastPart name x.1.now)
last_split name None h = record { stands = inl refl; plain = λ i. NoCharPasses-char 47 name i h (omega arith) }
last_split name (Some x) h = record {
  stands = inr (
    take h.0 name,
    sym (take-append-drop h.0 name) ∙ ap (λ l. take h.0 name ++ l) (drop_at_char 47 name h.0 h.1 h.2.1 (omega arith) ∙ ap (λ l. 47 ∷ l) (sym h.4)),
  );
  plain = λ i. NoCharPasses-char 47 x.1.now i (subst (NoCharPasses (λ d. d == 47)) (sym h.4) h.2.0) (omega arith);
}
