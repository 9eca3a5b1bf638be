-- A text is cut where its first space stands.
use Rattle.std.proofs.Common.{◌≡◌, ℕ, ◌+◌, ◌-◌, ◌<◌, ◌≤◌, List, [], ◌∷◌, Bool, true, false, Some, None, length, take, drop, add-one, arith, refl, ap, cond, nat_lt, rules, sym, ◌∙◌}
use Rattle.std.specs.Prelude.{position}
use Rattle.std.specs.Option.{option_map}
use Rattle.std.specs.List.{position_or_len}
use Rattle.std.proofs.lemmas.Grind.{common_steps}
use Rattle.run_records.specs.Words.{cut, is_space, longer}

first_here : (c : ℕ) (text : List ℕ) → is_space c ≡ true → position_or_len is_space (c ∷ text) ≡ 0
first_here c text e = rw e refl

first_later : (c : ℕ) (text : List ℕ) → is_space c ≡ false → position_or_len is_space (c ∷ text) ≡ position_or_len is_space text + 1
first_later c text e = rw e (omega arith)

cut_here : (c : ℕ) (text : List ℕ) → is_space c ≡ true → cut (c ∷ text) ≡ Some ([], text)
unfolding cut
cut_here c text e = rw e refl

cut_later : (c : ℕ) (text : List ℕ) → is_space c ≡ false → cut (c ∷ text) ≡ option_map (longer c) (cut text)
unfolding cut
cut_later c text e = rw e refl

take_on : (k c : ℕ) (text : List ℕ) → take (k + 1) (c ∷ text) ≡ c ∷ take k text
take_on k c text = rw (add-one k) refl

drop_on : (k c : ℕ) (text : List ℕ) → drop (k + 1) (c ∷ text) ≡ drop k text
drop_on k c text = rw (add-one k) refl

-- where the text is cut, told one byte further on
further_on : (c : ℕ) (text : List ℕ) (i : ℕ) (b : Bool) → is_space c ≡ b → position_or_len is_space (c ∷ text) ≡ i → i < length (c ∷ text)
    → ((k : ℕ) → position_or_len is_space text ≡ k → k < length text → cut text ≡ Some (take k text, drop (k + 1) text))
    → cut (c ∷ text) ≡ Some (take i (c ∷ text), drop (i + 1) (c ∷ text))
further_on c text i true here e h below =
    let at_front : i ≡ 0 = sym e ∙ first_here c text here in
    rw at_front (cut_here c text here)
further_on c text i false later e h below =
    let one_on : i ≡ position_or_len is_space text + 1 = sym e ∙ first_later c text later in
    let within : position_or_len is_space text < length text = omega (arith, h, one_on) in
    let k = position_or_len is_space text in
    rw one_on (rw (take_on k c text) (rw (drop_on (k + 1) c text)
    (cut_later c text later ∙ ap (option_map (longer c)) (below k refl within))))

cut_at : (text : List ℕ) (i : ℕ) → position_or_len is_space text ≡ i → i < length text → cut text ≡ Some (take i text, drop (i + 1) text)
cut_at [] i e h = absurd (omega (arith, h))
cut_at (c ∷ text) i e h = further_on c text i (is_space c) refl e h (cut_at text)

pub cut_found : (text : List ℕ) (i : ℕ) → position is_space text ≡ Some i → cut text ≡ Some (take i text, take (length text - (i + 1)) (drop (i + 1) text))
cut_found text i found = by_test (nat_lt (position_or_len is_space text) (length text)) refl found
  where
    by_test : (b : Bool) → nat_lt (position_or_len is_space text) (length text) ≡ b → cond b (Some (position_or_len is_space text)) None ≡ Some i
        → cut text ≡ Some (take i text, take (length text - (i + 1)) (drop (i + 1) text))
    by_test true within found =
        let here : position_or_len is_space text ≡ i = cc in
        let rest : take (length text - (i + 1)) (drop (i + 1) text) ≡ drop (i + 1) text = grind (arith, common_steps) in
        rw rest (cut_at text i here (search rules))
    by_test false without found = cc

none_further_on : (c : ℕ) (text : List ℕ) (b : Bool) → is_space c ≡ b → length (c ∷ text) ≤ position_or_len is_space (c ∷ text)
    → (length text ≤ position_or_len is_space text → cut text ≡ None) → cut (c ∷ text) ≡ None
none_further_on c text true here without below = absurd (omega (arith, first_here c text here, without))
none_further_on c text false later without below =
    cut_later c text later ∙ ap (option_map (longer c)) (below (omega (arith, first_later c text later, without)))

none_within : (text : List ℕ) → length text ≤ position_or_len is_space text → cut text ≡ None
unfolding cut
none_within [] without = refl
none_within (c ∷ text) without = none_further_on c text (is_space c) refl without (none_within text)

pub cut_missing : (text : List ℕ) → position is_space text ≡ None → cut text ≡ None
cut_missing text missing = none_within text (search rules)
