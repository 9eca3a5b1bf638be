-- A text is cut where the first byte stands that ends a part.
use Rattle.std.proofs.Common.{◌≡◌, ℕ, ◌+◌, ◌-◌, ◌<◌, ◌≤◌, List, [], ◌∷◌, Bool, true, false, Some, None, length, take, drop, add-one, arith, refl, ap, cond, nat_lt, rules, sym, ◌∙◌}
use Rattle.std.specs.Prelude.{position}
use Rattle.std.specs.List.{position_or_len}
use Rattle.std.proofs.lemmas.Grind.{common_steps}
use Rattle.text_lines.specs.Text.{parts_at, ahead}

first_here : (ends : ℕ → Bool) (c : ℕ) (text : List ℕ) → ends c ≡ true → position_or_len ends (c ∷ text) ≡ 0
first_here ends c text e = rw e refl

first_later : (ends : ℕ → Bool) (c : ℕ) (text : List ℕ) → ends c ≡ false → position_or_len ends (c ∷ text) ≡ position_or_len ends text + 1
first_later ends c text e = rw e (omega arith)

part_here : (ends : ℕ → Bool) (c : ℕ) (text : List ℕ) → ends c ≡ true → parts_at ends (c ∷ text) ≡ [] ∷ parts_at ends text
part_here ends c text e = rw e refl

part_later : (ends : ℕ → Bool) (c : ℕ) (text : List ℕ) → ends c ≡ false → parts_at ends (c ∷ text) ≡ ahead c (parts_at ends text)
part_later ends c text e = rw e refl

take_on : (k c : ℕ) (text : List ℕ) → take (k + 1) (c ∷ text) ≡ c ∷ take k text
take_on k c text = rw (add-one k) refl

drop_on : (k c : ℕ) (text : List ℕ) → drop (k + 1) (c ∷ text) ≡ drop k text
drop_on k c text = rw (add-one k) refl

-- Where the text is cut, told one byte further on.
found_further_on : (ends : ℕ → Bool) (c : ℕ) (text : List ℕ) (i : ℕ) (b : Bool) → ends c ≡ b → position_or_len ends (c ∷ text) ≡ i → i < length (c ∷ text)
    → ((k : ℕ) → position_or_len ends text ≡ k → k < length text → parts_at ends text ≡ take k text ∷ parts_at ends (drop (k + 1) text))
    → parts_at ends (c ∷ text) ≡ take i (c ∷ text) ∷ parts_at ends (drop (i + 1) (c ∷ text))
found_further_on ends c text i true here e h below =
    let at_front : i ≡ 0 = sym e ∙ first_here ends c text here in
    rw at_front (part_here ends c text here)
found_further_on ends c text i false later e h below =
    let one_on : i ≡ position_or_len ends text + 1 = sym e ∙ first_later ends c text later in
    let within : position_or_len ends text < length text = omega (arith, h, one_on) in
    let k = position_or_len ends text in
    rw one_on (rw (take_on k c text) (rw (drop_on (k + 1) c text)
    (part_later ends c text later ∙ ap (ahead c) (below k refl within))))

end_at : (ends : ℕ → Bool) (text : List ℕ) (i : ℕ) → position_or_len ends text ≡ i → i < length text → parts_at ends text ≡ take i text ∷ parts_at ends (drop (i + 1) text)
end_at ends [] i e h = absurd (omega (arith, h))
end_at ends (c ∷ text) i e h = found_further_on ends c text i (ends c) refl e h (end_at ends text)

pub parts_at_end_found : (ends : ℕ → Bool) (text : List ℕ) (i : ℕ) → position ends text ≡ Some i → parts_at ends text ≡ take i text ∷ parts_at ends (take (length text - (i + 1)) (drop (i + 1) text))
parts_at_end_found ends text i found = by_test (nat_lt (position_or_len ends text) (length text)) refl found
  where
    by_test : (b : Bool) → nat_lt (position_or_len ends text) (length text) ≡ b → cond b (Some (position_or_len ends text)) None ≡ Some i
        → parts_at ends text ≡ take i text ∷ parts_at ends (take (length text - (i + 1)) (drop (i + 1) text))
    by_test true within found =
        let here : position_or_len ends text ≡ i = cc in
        let rest : take (length text - (i + 1)) (drop (i + 1) text) ≡ drop (i + 1) text = grind (arith, common_steps) in
        rw rest (end_at ends text i here (search rules))
    by_test false without found = cc

no_end_further_on : (ends : ℕ → Bool) (c : ℕ) (text : List ℕ) (b : Bool) → ends c ≡ b → length (c ∷ text) ≤ position_or_len ends (c ∷ text)
    → (length text ≤ position_or_len ends text → 0 < length text → parts_at ends text ≡ text ∷ [])
    → parts_at ends (c ∷ text) ≡ (c ∷ text) ∷ []
no_end_further_on ends c text true here without below = absurd (omega (arith, first_here ends c text here, without))
no_end_further_on ends c [] false later without below = part_later ends c [] later
no_end_further_on ends c (d ∷ text) false later without below =
    part_later ends c (d ∷ text) later ∙ ap (ahead c) (below (omega (arith, first_later ends c (d ∷ text) later, without)) (omega arith))

no_end_within : (ends : ℕ → Bool) (text : List ℕ) → length text ≤ position_or_len ends text → 0 < length text → parts_at ends text ≡ text ∷ []
no_end_within ends [] without nonempty = absurd (omega (arith, nonempty))
no_end_within ends (c ∷ text) without nonempty = no_end_further_on ends c text (ends c) refl without (no_end_within ends text)

pub parts_at_no_end : (ends : ℕ → Bool) (text : List ℕ) → position ends text ≡ None → 0 < length text → parts_at ends text ≡ text ∷ []
parts_at_no_end ends text missing nonempty = no_end_within ends text (search rules) nonempty
