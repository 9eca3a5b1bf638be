-- A text is read to the bytes for which it stands.
use Rattle.std.proofs.Common.{◌≡◌, ℕ, false, List, ◌∷◌, refl, ap, ne_eqb}
use Rattle.asm_values.specs.Directives.{unescaped, unescaped_after, escape}
use Rattle.asm_values.specs.Escapes.{ReadsEscapes, nothing, plain, line_feed, tab, zero_byte, backslash, quote}

reads_on : (text bytes : List ℕ) → ReadsEscapes text bytes → unescaped_after false text ≡ bytes
unfolding unescaped_after escape
reads_on _ _ nothing = refl
reads_on _ _ (plain character text bytes other more) = rw (ne_eqb character 92 other) (ap (λ l. character ∷ l) (reads_on text bytes more))
reads_on _ _ (line_feed text bytes more) = ap (λ l. 10 ∷ l) (reads_on text bytes more)
reads_on _ _ (tab text bytes more) = ap (λ l. 9 ∷ l) (reads_on text bytes more)
reads_on _ _ (zero_byte text bytes more) = ap (λ l. 0 ∷ l) (reads_on text bytes more)
reads_on _ _ (backslash text bytes more) = ap (λ l. 92 ∷ l) (reads_on text bytes more)
reads_on _ _ (quote text bytes more) = ap (λ l. 34 ∷ l) (reads_on text bytes more)

pub text_reads : (text bytes : List ℕ) → ReadsEscapes text bytes → unescaped text ≡ bytes
unfolding unescaped
text_reads text bytes stands = reads_on text bytes stands
