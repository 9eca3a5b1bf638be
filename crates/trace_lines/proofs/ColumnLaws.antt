-- The first field of a line and the others: proofs.
use Rattle.std.specs.Prelude.{◌≡◌, ℕ, zero, suc, ◌+◌, ◌-◌, ◌<◌, ◌≤◌, ◌==◌, ◌&&◌, Bool, true, false, not, List, [], ◌∷◌, length, take, drop, slice_get, Some, None, refl}
use Rattle.std.proofs.Common.{arith, ap, sym, ◌∙◌}
use Rattle.text_lines.specs.Text.{ahead}
use Rattle.trace_lines.specs.Columns.{field_size, fields_from, fields_of, quoted_after}

whole_from : (separator : ℕ) (quoted : Bool) (line : List ℕ) → field_size separator quoted line ≡ length line → fields_from separator quoted line ≡ line ∷ []
unfolding field_size fields_from
whole_from separator quoted [] long = refl
whole_from separator quoted (c ∷ line) long = by_test ((c == separator) && not quoted) refl long (whole_from separator (quoted_after quoted c) line)
  where
    by_test : (b : Bool) → ((c == separator) && not quoted) ≡ b → field_size separator quoted (c ∷ line) ≡ suc (length line)
        → (field_size separator (quoted_after quoted c) line ≡ length line → fields_from separator (quoted_after quoted c) line ≡ line ∷ []) → fields_from separator quoted (c ∷ line) ≡ (c ∷ line) ∷ []
    by_test true e h later = absurd (let none : field_size separator quoted (c ∷ line) ≡ 0 = rw e refl in omega (arith, none, h))
    by_test false e h later =
        let more : field_size separator quoted (c ∷ line) ≡ suc (field_size separator (quoted_after quoted c) line) = rw e refl in
        let rest : field_size separator (quoted_after quoted c) line ≡ length line = omega (arith, more, h) in
        rw e (ap (ahead c) (later rest))

cut_from : (separator : ℕ) (quoted : Bool) (line : List ℕ) → field_size separator quoted line < length line
    → fields_from separator quoted line ≡ take (field_size separator quoted line) line ∷ fields_of separator (drop (suc (field_size separator quoted line)) line)
unfolding field_size fields_from
cut_from separator quoted [] short = absurd (omega (arith, short))
cut_from separator quoted (c ∷ line) short = by_test ((c == separator) && not quoted) refl short (cut_from separator (quoted_after quoted c) line)
  where
    Cut : Bool → List ℕ → Type 0
    Cut q l = fields_from separator q l ≡ take (field_size separator q l) l ∷ fields_of separator (drop (suc (field_size separator q l)) l)

    by_test : (b : Bool) → ((c == separator) && not quoted) ≡ b → field_size separator quoted (c ∷ line) < suc (length line)
        → (field_size separator (quoted_after quoted c) line < length line → Cut (quoted_after quoted c) line) → Cut quoted (c ∷ line)
    by_test true e h later = rw e refl
    by_test false e h later =
        let more : field_size separator quoted (c ∷ line) ≡ suc (field_size separator (quoted_after quoted c) line) = rw e refl in
        let rest : field_size separator (quoted_after quoted c) line < length line = omega (arith, more, h) in
        rw e (ap (ahead c) (later rest))

pub whole_field : (separator size : ℕ) (line : List ℕ) → size ≡ field_size separator false line → size ≡ length line → fields_of separator line ≡ line ∷ []
whole_field separator size line is long = whole_from separator false line (omega (arith, is, long))

pub take_whole : (line : List ℕ) (n : ℕ) → length line ≤ n → take n line ≡ line
take_whole [] zero h = refl
take_whole [] (suc n) h = refl
take_whole (c ∷ line) zero h = absurd (omega (arith, h))
take_whole (c ∷ line) (suc n) h = ap (λ (l : List ℕ). c ∷ l) (take_whole line n (omega (arith, h)))

behind_length : (line : List ℕ) (n : ℕ) → length (drop n line) ≤ length line - n
behind_length [] zero = omega arith
behind_length [] (suc n) = omega arith
behind_length (c ∷ line) zero = omega arith
behind_length (c ∷ line) (suc n) = omega (arith, behind_length line n)

-- the part behind a place, as it is cut
pub cut_field : (separator size : ℕ) (line : List ℕ) → size ≡ field_size separator false line → size < length line
    → fields_of separator line ≡ take size line ∷ fields_of separator (take (length line - (size + 1)) (drop (size + 1) line))
cut_field separator size line is short =
    let here : field_size separator false line < length line = omega (arith, is, short) in
    let behind : suc (field_size separator false line) ≡ size + 1 = omega (arith, is) in
    cut_from separator false line here
    ∙ ap (λ (n : ℕ). take n line ∷ fields_of separator (drop (suc (field_size separator false line)) line)) (sym is)
    ∙ ap (λ (n : ℕ). take size line ∷ fields_of separator (drop n line)) behind
    ∙ ap (λ (l : List ℕ). take size line ∷ fields_of separator l) (sym (take_whole (drop (size + 1) line) (length line - (size + 1)) (behind_length line (size + 1))))

-- ---- fields by their places

pub get_behind : (field : List ℕ) (fields behind : List (List ℕ)) (n : ℕ) → fields ≡ field ∷ behind → 0 < n → slice_get fields n ≡ slice_get behind (n - 1)
get_behind field fields behind zero is some = absurd (omega (arith, some))
get_behind field fields behind (suc n) is some = let one : suc n - 1 ≡ n = omega arith in rw one (ap (λ (l : List (List ℕ)). slice_get l (suc n)) is)

pub get_first : (field : List ℕ) (fields behind : List (List ℕ)) (n : ℕ) → fields ≡ field ∷ behind → n ≡ 0 → slice_get fields n ≡ Some field
get_first field fields behind zero is none = ap (λ (l : List (List ℕ)). slice_get l 0) is
get_first field fields behind (suc n) is none = absurd (omega (arith, none))

pub get_none : (field : List ℕ) (fields : List (List ℕ)) (n : ℕ) → fields ≡ field ∷ [] → 0 < n → slice_get fields n ≡ None
get_none field fields zero is some = absurd (omega (arith, some))
get_none field fields (suc n) is some = ap (λ (l : List (List ℕ)). slice_get l (suc n)) is
