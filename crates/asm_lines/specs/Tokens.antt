-- The tokens of a line.
use Rattle.std.specs.Prelude.{ℕ, List, [], ◌∷◌, ◌++◌, Option, Some, None, option_map, Bool, false, ◌==◌, ◌||◌, if◌then◌else◌}
use Rattle.std.specs.Char.{is_ascii_digit}
use Rattle.asm_lines.specs.declared.bytes.ByteClass.{ByteClass}
use Rattle.asm_lines.specs.declared.bytes.ByteClass.TheVariants.{Blank, Comment, Quote, Colon, Comma, Open, Close, Word, Stray}
use Rattle.asm_lines.specs.declared.bytes.TextStep.{TextStep}
use Rattle.asm_lines.specs.declared.bytes.TextStep.TheVariants.{Closes, Belongs, Breaks}
use Rattle.asm_lines.specs.declared.token.Token.{Token}
use Rattle.asm_lines.specs.declared.token.Token.TheVariants as token
use Rattle.asm_lines.specs.Bytes.{class_of, is_name_byte, text_step}
use Rattle.asm_lines.specs.Numbers.{number_of}

-- a word is a number where it begins with a digit or `-`, and else a name
abbrev pub begins_number : List ℕ → Bool
begins_number [] = false
begins_number (byte ∷ bytes) = is_ascii_digit byte || (byte == 45)

unfoldable pub word_token : List ℕ → Option Token
word_token word = if begins_number word then option_map token.Number (number_of word) else Some (token.Name word)

-- the state in which a line is cut into tokens: between tokens, or in a word or a text of which these bytes have come; in a text
-- the flag tells that a backslash escapes the next byte
pub data LexerState : Type 0 where
  Between : LexerState
  InWord : List ℕ → LexerState
  InText : Bool → List ℕ → LexerState

-- a token and those that follow it, if each is one
abbrev pub followed : Option Token → Option (List Token) → Option (List Token)
followed None later = None
followed (Some one) later = option_map (λ tokens. one ∷ tokens) later

-- what a byte begins between tokens, where `later` gives the tokens of what follows it
abbrev pub begun : ByteClass → ℕ → (LexerState → Option (List Token)) → Option (List Token)
begun Blank byte later = later Between
begun Comment byte later = Some []
begun Quote byte later = later (InText false [])
begun Colon byte later = followed (Some token.Colon) (later Between)
begun Comma byte later = followed (Some token.Comma) (later Between)
begun Open byte later = followed (Some token.Open) (later Between)
begun Close byte later = followed (Some token.Close) (later Between)
begun Word byte later = later (InWord (byte ∷ []))
begun Stray byte later = None

-- what a byte does to a text
abbrev pub continued : TextStep → List ℕ → ℕ → (LexerState → Option (List Token)) → Option (List Token)
continued Closes text byte later = followed (Some (token.Text text)) (later Between)
continued (Belongs escapes) text byte later = later (InText escapes (text ++ byte ∷ []))
continued Breaks text byte later = None

-- the tokens from a byte on
abbrev pub tokens_at : LexerState → ℕ → (LexerState → Option (List Token)) → Option (List Token)
tokens_at Between byte later = begun (class_of byte) byte later
tokens_at (InWord word) byte later =
    if is_name_byte byte then later (InWord (word ++ byte ∷ []))
    else followed (word_token word) (begun (class_of byte) byte later)
tokens_at (InText escaped text) byte later = continued (text_step escaped byte) text byte later

-- the tokens of a line from a state on; a text is closed on its line
abbrev pub tokens_from : LexerState → List ℕ → Option (List Token)
tokens_from Between [] = Some []
tokens_from (InWord word) [] = followed (word_token word) (Some [])
tokens_from (InText escaped text) [] = None
tokens_from state (byte ∷ bytes) = tokens_at state byte (λ next. tokens_from next bytes)

abbrev pub tokens_of : List ℕ → Option (List Token)
tokens_of line = tokens_from Between line
