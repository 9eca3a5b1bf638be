-- What a byte is in a line of source.
use Rattle.std.specs.Prelude.{ℕ, Bool, true, false, ◌==◌, ◌||◌, if◌then◌else◌}
use Rattle.std.specs.Char.{is_ascii_alphanumeric, is_ascii_graphic}
use Rattle.asm_lines.specs.declared.bytes.ByteClass.{ByteClass}
use Rattle.asm_lines.specs.declared.bytes.ByteClass.TheVariants.{Blank, Comment, Quote, Colon, Comma, Open, Close, Word, Stray}
use Rattle.asm_lines.specs.declared.bytes.TextStep.{TextStep}
use Rattle.asm_lines.specs.declared.bytes.TextStep.TheVariants.{Closes, Belongs, Breaks}

-- a letter, a digit, `_` or `.`
unfoldable pub is_name_byte : ℕ → Bool
is_name_byte byte = is_ascii_alphanumeric byte || (byte == 95) || (byte == 46)

-- what a byte begins outside of quotes: a space or a tab nothing, `#` a comment, `"` a text, `:`, `,`, `(` and `)` a token of
-- their own, `-` and each byte of a name a word
unfoldable pub class_of : ℕ → ByteClass
class_of byte =
    if (byte == 32) || (byte == 9) then Blank
    else if byte == 35 then Comment
    else if byte == 34 then Quote
    else if byte == 58 then Colon
    else if byte == 44 then Comma
    else if byte == 40 then Open
    else if byte == 41 then Close
    else if (byte == 45) || is_name_byte byte then Word
    else Stray

-- a printed character or a space
unfoldable pub is_text_byte : ℕ → Bool
is_text_byte byte = is_ascii_graphic byte || (byte == 32)

-- `n`, `t`, `\`, `"` or `0`
unfoldable pub is_escape : ℕ → Bool
is_escape byte = (byte == 110) || (byte == 116) || (byte == 92) || (byte == 34) || (byte == 48)

-- what a byte does to a text, where the flag tells that a backslash stands before it and escapes it: then only an escape may stand
-- there; else `"` closes the text, and a backslash and each text byte belong to it
unfoldable pub text_step : Bool → ℕ → TextStep
text_step true byte = if is_escape byte then Belongs false else Breaks
text_step false byte =
    if byte == 34 then Closes
    else if byte == 92 then Belongs true
    else if is_text_byte byte then Belongs false
    else Breaks
