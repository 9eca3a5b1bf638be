-- How references to one page are joined, one after another.
use Rattle.std.proofs.Common.{◌≡◌, true, false, List, [], ◌∷◌, ◌++◌, Option, Some, None, cond, refl, sym, ap, ◌∙◌}
use Rattle.guest_strings.specs.declared.reference.Reference.{Reference}
use Rattle.guest_strings.specs.References.{is_same_page, both, joined_to, joined}
use Rattle.guest_strings.specs.ToCome.{listed}

one : (held next : Reference) (string : List Reference)
    → joined (held ∷ (next ∷ string)) ≡ cond (is_same_page held.page next.page) (joined_to (both held next) string) (held ∷ joined_to next string)
unfolding joined joined_to
one held next string = refl

whole : (first : Reference) (string : List Reference) → joined_to first string ≡ joined (first ∷ string)
unfolding joined
whole first string = refl

pub joined_same : (held next : Reference) (string : List Reference) → is_same_page held.page next.page ≡ true
    → joined (held ∷ (next ∷ string)) ≡ joined (both held next ∷ string)
joined_same held next string same =
    one held next string ∙ ap (λ b. cond b (joined_to (both held next) string) (held ∷ joined_to next string)) same ∙ whole (both held next) string

pub joined_other : (held next : Reference) (string : List Reference) → is_same_page held.page next.page ≡ false
    → joined (held ∷ (next ∷ string)) ≡ held ∷ joined (next ∷ string)
joined_other held next string other =
    one held next string ∙ ap (λ b. cond b (joined_to (both held next) string) (held ∷ joined_to next string)) other
    ∙ ap (λ rest. held ∷ rest) (whole next string)

pub joined_none : joined [] ≡ []
unfolding joined
joined_none = refl

last : (held : Option Reference) → joined (listed held ++ []) ≡ listed held ++ joined (listed None ++ [])
unfolding joined joined_to
last None = refl
last (Some held) = refl

-- at the end the reference that was held is the last one
pub ends : (held taken after next : Option Reference) (before left : List Reference) → next ≡ None → before ≡ listed next ++ left → (next ≡ None → left ≡ [])
    → taken ≡ held → after ≡ None → joined (listed held ++ before) ≡ listed taken ++ joined (listed after ++ left)
ends held taken after next before left none is done takes leaves =
    let gone : left ≡ [] = done none in
    ap (λ uses. joined (listed held ++ uses)) (is ∙ ap (λ o. listed o ++ left) none ∙ gone) ∙ last held
    ∙ (λ i. listed (sym takes i) ++ joined (listed (sym leaves i) ++ sym gone i))

-- and no more is to come
pub no_more : (after next : Option Reference) (left : List Reference) → next ≡ None → (next ≡ None → left ≡ []) → after ≡ None → joined (listed after ++ left) ≡ []
no_more after next left none done leaves = (λ i. joined (listed (leaves i) ++ done none i)) ∙ joined_none
