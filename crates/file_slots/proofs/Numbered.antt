-- Slots that are made one after another.
use Rattle.std.proofs.Common.{◌≡◌, ◌∙◌, ◌+◌, ◌++◌, ◌∷◌, [], List, ℕ, ap, arith, map, refl, subst, sym}
use Rattle.std.specs.Prelude.{All}
use Rattle.std.specs.List.{range_with_len}
use Rattle.std.proofs.lemmas.List.{map-append}
use Rattle.std.proofs.lemmas.List.FromFn.{map-range_with_len_more}
use Rattle.std.proofs.lemmas.List.Elements.{All-nil, All-push}
use Rattle.file_slots.specs.FileNames.{file_name}
use Rattle.file_slots.specs.FileSlotValue.{FileSlotValue}
use Rattle.file_slots.specs.Making.{AreMade, IsMade}

same : (numbers : List ℕ) → map (λ n. n) numbers ≡ numbers
same [] = refl
same (n ∷ numbers) = ap (λ l. n ∷ l) (same numbers)

more : (n : ℕ) → range_with_len 0 (n + 1) ≡ range_with_len 0 n ++ n ∷ []
more n = sym (same (range_with_len 0 (n + 1))) ∙ map-range_with_len_more (λ k. k) 0 n n (omega arith) ∙ ap (λ l. l ++ n ∷ []) (same (range_with_len 0 n))

-- behind the slots below n comes slot n
numbered : {F : Type 0} → (old new : List (FileSlotValue F)) (slot : FileSlotValue F) (n : ℕ)
    → map (λ s. s.number) old ≡ range_with_len 0 n → slot.number ≡ n → new ≡ old ++ slot ∷ [] → map (λ s. s.number) new ≡ range_with_len 0 (n + 1)
numbered old new slot n below is pushed =
    ap (λ l. map (λ s. s.number) l) pushed
    ∙ map-append (λ s. s.number) old (slot ∷ [])
    ∙ ap (λ l. l ++ slot.number ∷ []) below
    ∙ ap (λ k. range_with_len 0 n ++ k ∷ []) is
    ∙ sym (more n)

-- what holds of each slot holds of each once there is one more of which it holds
all_behind : {F : Type 0} (P : FileSlotValue F → Type 0) → (old new : List (FileSlotValue F)) (slot : FileSlotValue F) → All P old → P slot → new ≡ old ++ slot ∷ [] → All P new
all_behind P old new slot all one pushed = subst (λ l. All P l) (sym pushed) (All-push P old slot all one)

module _ {F : Type 0} (makes : List ℕ → F → Type 0) (prefix : List ℕ) where
  pub none_made : (slots : List (FileSlotValue F)) → slots ≡ [] → AreMade makes prefix 0 slots
  none_made [] none = record { numbers = refl; unused = All-nil _; named = All-nil _ }
  none_made (slot ∷ slots) none = cc

  pub one_more_made : (old new : List (FileSlotValue F)) (slot : FileSlotValue F) (n : ℕ) → AreMade makes prefix n old → IsMade makes prefix n slot → new ≡ old ++ slot ∷ [] → AreMade makes prefix (n + 1) new
  one_more_made old new slot n made one pushed =
      record {
        numbers = numbered old new slot n made.numbers one.number_is pushed;
        unused = all_behind (λ s. s.failures ≡ 0) old new slot made.unused one.unused pushed;
        named = all_behind (λ s. makes (file_name prefix s.number) s.file) old new slot made.named (subst (λ k. makes (file_name prefix k) slot.file) (sym one.number_is) one.named) pushed;
      }
