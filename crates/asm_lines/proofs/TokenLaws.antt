-- Laws on the tokens of a line, in the language's own terms.
use Rattle.std.specs.Prelude.{◌≡◌, ◌≢◌, ℕ, List, [], ◌∷◌, ◌++◌, true, false, Some, refl}
use Rattle.std.proofs.Common.{◌∙◌, ap, append_assoc, append-nil, ne_eqb}
use Rattle.asm_lines.specs.declared.bytes.ByteClass.TheVariants.{Word}
use Rattle.asm_lines.specs.declared.bytes.TextStep.TheVariants.{Closes, Belongs}
use Rattle.asm_lines.specs.declared.token.Token.TheVariants as token
use Rattle.asm_lines.specs.Bytes.{class_of, is_text_byte, is_escape, text_step}
use Rattle.asm_lines.specs.Spellings.{AllOfNames, EndsNames, IsText, empty, plain, escape}
use Rattle.asm_lines.specs.Tokens.{InWord, InText, tokens_of, tokens_from, followed, word_token}

word_on : (front word rest : List ℕ) → AllOfNames word → EndsNames rest
    → tokens_from (InWord front) (word ++ rest) ≡ followed (word_token (front ++ word)) (tokens_of rest)
word_on front [] [] all ends = rw (append-nil front) refl
word_on front [] (byte ∷ rest) all ends = rw ends (rw (append-nil front) refl)
word_on front (byte ∷ word) rest all ends =
    rw (all.0) (word_on (front ++ byte ∷ []) word rest all.1 ends
    ∙ ap (λ bytes. followed (word_token bytes) (tokens_of rest)) (append_assoc front (byte ∷ []) word))

-- a word reaches to the first byte that is of no name
pub word_reads : (first : ℕ) (word rest : List ℕ) → class_of first ≡ Word → AllOfNames word → EndsNames rest
    → tokens_of (first ∷ word ++ rest) ≡ followed (word_token (first ∷ word)) (tokens_of rest)
word_reads first word rest begins all ends = rw begins (word_on (first ∷ []) word rest all ends)

plain_step : (byte : ℕ) → is_text_byte byte ≡ true → byte ≢ 34 → byte ≢ 92 → text_step false byte ≡ Belongs false
unfolding text_step
plain_step byte printed no_quote no_backslash = rw (ne_eqb byte 34 no_quote, ne_eqb byte 92 no_backslash, printed) refl

escape_step : (byte : ℕ) → is_escape byte ≡ true → text_step true byte ≡ Belongs false
unfolding text_step
escape_step byte escapes = rw escapes refl

backslash_step : text_step false 92 ≡ Belongs true
unfolding text_step
backslash_step = refl

quote_step : text_step false 34 ≡ Closes
unfolding text_step
quote_step = refl

text_on : (front text rest : List ℕ) → IsText text
    → tokens_from (InText false front) (text ++ 34 ∷ rest) ≡ followed (Some (token.Text (front ++ text))) (tokens_of rest)
text_on front _ rest empty = rw quote_step (rw (append-nil front) refl)
text_on front _ rest (plain byte text printed no_quote no_backslash more) =
    rw (plain_step byte printed no_quote no_backslash) (text_on (front ++ byte ∷ []) text rest more
    ∙ ap (λ bytes. followed (Some (token.Text bytes)) (tokens_of rest)) (append_assoc front (byte ∷ []) text))
text_on front _ rest (escape byte text escapes more) =
    rw backslash_step (rw (escape_step byte escapes) (text_on ((front ++ 92 ∷ []) ++ byte ∷ []) text rest more
    ∙ ap (λ bytes. followed (Some (token.Text bytes)) (tokens_of rest)) (append_assoc (front ++ 92 ∷ []) (byte ∷ []) text ∙ append_assoc front (92 ∷ []) (byte ∷ text))))

-- a text reaches to the first quote that no backslash escapes
pub text_reads : (text rest : List ℕ) → IsText text → tokens_of (34 ∷ text ++ 34 ∷ rest) ≡ followed (Some (token.Text text)) (tokens_of rest)
unfolding class_of
text_reads text rest is_text = text_on [] text rest is_text

pub space_reads : (rest : List ℕ) → tokens_of (32 ∷ rest) ≡ tokens_of rest
unfolding class_of
space_reads rest = refl

pub tab_reads : (rest : List ℕ) → tokens_of (9 ∷ rest) ≡ tokens_of rest
unfolding class_of
tab_reads rest = refl

-- a comment reaches to the end of the line
pub comment_reads : (rest : List ℕ) → tokens_of (35 ∷ rest) ≡ Some []
unfolding class_of
comment_reads rest = refl
