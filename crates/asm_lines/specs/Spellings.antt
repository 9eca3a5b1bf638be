-- What may be written as a name, and as a text between quotes.
use Rattle.std.specs.Prelude.{◌≡◌, ◌≢◌, ℕ, List, [], ◌∷◌, true, false, ⊤}
use Rattle.std.specs.List.{AllByRecursion}
use Rattle.asm_lines.specs.Bytes.{is_name_byte, is_text_byte, is_escape}

-- each byte may stand in a name
abbrev pub AllOfNames : List ℕ → Type 0
AllOfNames bytes = AllByRecursion (λ byte. is_name_byte byte ≡ true) bytes

-- what follows goes on with no name
abbrev pub EndsNames : List ℕ → Type 0
EndsNames [] = ⊤
EndsNames (byte ∷ bytes) = is_name_byte byte ≡ false

-- what may stand between quotes: printed characters and spaces but for `"` and `\`, and escapes, each behind a `\`
pub data IsText : List ℕ → Type 0 where
  empty : IsText []
  plain : (byte : ℕ) (text : List ℕ) → is_text_byte byte ≡ true → byte ≢ 34 → byte ≢ 92 → IsText text → IsText (byte ∷ text)
  escape : (byte : ℕ) (text : List ℕ) → is_escape byte ≡ true → IsText text → IsText (92 ∷ byte ∷ text)
