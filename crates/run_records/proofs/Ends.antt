-- Whether the last line of a text has an end, by its last byte.
use Rattle.std.proofs.Common.{◌≡◌, ℕ, ◌-◌, ◌==◌, suc, false, List, [], ◌∷◌, length, slice_get, Some, None, refl, arith, ap, ◌∙◌, sym}
use Rattle.run_records.specs.Records.{is_ended}

one_less : (d : ℕ) (text : List ℕ) → length (d ∷ text) - 1 ≡ length text
one_less d text = omega arith

last_of : (c d : ℕ) (text : List ℕ) → slice_get (c ∷ d ∷ text) (length (c ∷ d ∷ text) - 1) ≡ slice_get (d ∷ text) (length (d ∷ text) - 1)
last_of c d text =
    let on : length (c ∷ d ∷ text) - 1 ≡ suc (length text) = omega arith in
    rw on (ap (slice_get (d ∷ text)) (sym (one_less d text)))

pub last_is_end : (text : List ℕ) (last : ℕ) → slice_get text (length text - 1) ≡ Some last → is_ended text ≡ (last == 10)
last_is_end [] last e = absurd (cc)
last_is_end (c ∷ []) last e = let same : c ≡ last = cc in ap (λ (x : ℕ). x == 10) same
last_is_end (c ∷ d ∷ text) last e = last_is_end (d ∷ text) last (sym (last_of c d text) ∙ e)

pub nothing_ends : (text : List ℕ) → slice_get text (length text - 1) ≡ None → is_ended text ≡ false
nothing_ends [] e = refl
nothing_ends (c ∷ []) e = absurd (cc)
nothing_ends (c ∷ d ∷ text) e = nothing_ends (d ∷ text) (sym (last_of c d text) ∙ e)
