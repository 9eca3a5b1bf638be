-- Lines that are taken from known bytes, byte by byte.
use Rattle.std.proofs.Common.{◌≡◌, ◌∙◌, ℕ, ◌<◌, ◌≤◌, Bool, true, false, not, List, [], ◌∷◌, ◌++◌, length, Option, None, Some, ap, arith, append_assoc, append-nil, length-append, refl, subst, sym}
use Rattle.std.specs.Prelude.{⊤}
use Rattle.std.specs.Io.KnownBytes.{Consumes, IsAtEnd}
use Rattle.text_lines.specs.Text.{ahead, is_line_end, lines_of}
use Rattle.debug_session.specs.InputLines.{BeginsTooLong, TakesLine}

-- no byte is a line end
abbrev pub Unended : List ℕ → Type 0
Unended [] = ⊤
Unended (c ∷ line) = (is_line_end c ≡ false) × Unended line

pub longer : (line : List ℕ) (c : ℕ) → Unended line → is_line_end c ≡ false → Unended (line ++ c ∷ [])
longer [] c none e = (e, tt)
longer (d ∷ line) c none e = (none.0, longer line c none.1 e)

goes_on : (c : ℕ) (text : List ℕ) → is_line_end c ≡ false → lines_of (c ∷ text) ≡ ahead c (lines_of text)
goes_on c text e = rw e refl

ended : (line rest : List ℕ) → Unended line → lines_of (line ++ 10 ∷ rest) ≡ line ∷ lines_of rest
ended [] rest none = refl
ended (c ∷ line) rest none = goes_on c (line ++ 10 ∷ rest) none.0 ∙ ap (ahead c) (ended line rest none.1)

unended : (c : ℕ) (line : List ℕ) → Unended (c ∷ line) → lines_of (c ∷ line) ≡ (c ∷ line) ∷ []
unended c [] none = goes_on c [] none.0
unended c (d ∷ line) none = goes_on c (d ∷ line) none.0 ∙ ap (ahead c) (unended d line none.1)

-- the first line begins with these bytes
abbrev BeginsWith : List ℕ → List (List ℕ) → Type 0
BeginsWith line lines = (more : List ℕ) × ((below : List (List ℕ)) × (lines ≡ (line ++ more) ∷ below))

in_front : (c : ℕ) (lines : List (List ℕ)) → BeginsWith (c ∷ []) (ahead c lines)
in_front c [] = ([], ([], refl))
in_front c (part ∷ parts) = (part, (parts, refl))

unended_front : (c : ℕ) (line rest : List ℕ) → Unended (c ∷ line) → BeginsWith (c ∷ line) (lines_of ((c ∷ line) ++ rest))
unended_front c [] rest none = subst (BeginsWith (c ∷ [])) (sym (goes_on c rest none.0)) (in_front c (lines_of rest))
unended_front c (d ∷ line) rest none =
    let later = unended_front d line rest none.1 in
    (later.0, (later.1.0, goes_on c ((d ∷ line) ++ rest) none.0 ∙ ap (ahead c) later.1.1))

pub grown : (old now new : Option (List ℕ)) (line : List ℕ) (c : ℕ) → Consumes old now line → Consumes now new (c ∷ []) → Consumes old new (line ++ c ∷ [])
grown None now new line c some one = tt
grown (Some bytes) None new line c some one = elim some [ ]
grown (Some bytes) (Some rest) None line c some one = elim one [ ]
grown (Some bytes) (Some rest) (Some others) line c some one = some ∙ ap (λ l. line ++ l) one ∙ sym (append_assoc line (c ∷ []) others)

pub taken : (old now new : Option (List ℕ)) (line : List ℕ) → Unended line → Consumes old now line → Consumes now new (10 ∷ []) → TakesLine old true line new
taken None now new line none some one = tt
taken (Some bytes) None new line none some one = elim some [ ]
taken (Some bytes) (Some rest) None line none some one = elim one [ ]
taken (Some bytes) (Some rest) (Some others) line none some one = ap lines_of (some ∙ ap (λ l. line ++ l) one) ∙ ended line others none

pub last : (old now new : Option (List ℕ)) (c : ℕ) (line : List ℕ) → Unended (c ∷ line) → Consumes old now (c ∷ line) → Consumes now new [] → IsAtEnd new → TakesLine old true (c ∷ line) new
last None now new c line none some nothing end = tt
last (Some bytes) None new c line none some nothing end = elim some [ ]
last (Some bytes) (Some rest) None c line none some nothing end = elim nothing [ ]
last (Some bytes) (Some rest) (Some others) c line none some nothing end =
    ap lines_of (some ∙ ap (λ l. (c ∷ line) ++ l) (nothing ∙ end) ∙ append-nil (c ∷ line)) ∙ unended c line none
    ∙ ap (λ l. (c ∷ line) ∷ lines_of l) (sym end)

pub no_more : (old now new : Option (List ℕ)) → Consumes old now [] → Consumes now new [] → IsAtEnd new → TakesLine old false [] new
no_more None now new some nothing end = tt
no_more (Some bytes) None new some nothing end = elim some [ ]
no_more (Some bytes) (Some rest) None some nothing end = elim nothing [ ]
no_more (Some bytes) (Some rest) (Some others) some nothing end = ap lines_of (some ∙ nothing ∙ end)

pub none_left : (old now new : Option (List ℕ)) (line : List ℕ) (b : Bool) → Unended line → Consumes old now line → Consumes now new [] → IsAtEnd new
    → (b ≡ true → length line ≡ 0) → (b ≡ false → 0 < length line) → TakesLine old (not b) line new
none_left old now new [] true none some nothing end empty filled = no_more old now new some nothing end
none_left old now new [] false none some nothing end empty filled = absurd (omega (arith, filled refl))
none_left old now new (c ∷ line) true none some nothing end empty filled = absurd (omega (arith, empty refl))
none_left old now new (c ∷ line) false none some nothing end empty filled = last old now new c line none some nothing end

pub too_long : (old now : Option (List ℕ)) (line : List ℕ) → Unended line → Consumes old now line → 33554433 ≤ length line → BeginsTooLong old
too_long None now line none some long = tt
too_long (Some bytes) None line none some long = elim some [ ]
too_long (Some bytes) (Some rest) [] none some long = absurd (omega (arith, long))
too_long (Some bytes) (Some rest) (c ∷ line) none some long =
    let front = unended_front c line rest none in
    ((c ∷ line) ++ front.0, (front.1.0, ap lines_of some ∙ front.1.1, omega (arith, long, length-append (c ∷ line) front.0)))
