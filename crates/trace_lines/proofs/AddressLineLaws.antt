-- A view's words one by one: proofs.
use Rattle.std.specs.Prelude.{◌≡◌, ℕ, Bool, true, false, List, [], ◌∷◌, codes, Option, None, refl}
use Rattle.std.specs.Str.{bytes_eq}
use Rattle.std.proofs.Common.{ap, ◌∙◌}
use Rattle.trace_lines.specs.AddressLines.{view_words, view_place, kind_after, size_after}

pub view_end : (kind : Option Bool) (size : Option (Option ℕ)) (words : List (List ℕ)) → words ≡ [] → view_words kind size words ≡ None
unfolding view_words
view_end kind size words e = ap (view_words kind size) e

pub view_at : (kind : Option Bool) (size : Option (Option ℕ)) (words : List (List ℕ)) (word : List ℕ) (others : List (List ℕ)) → words ≡ word ∷ others → bytes_eq word (codes "@") ≡ true
    → view_words kind size words ≡ view_place kind size others
unfolding view_words
view_at kind size words word others e at = ap (view_words kind size) e ∙ rw at refl

pub view_on : (kind : Option Bool) (size : Option (Option ℕ)) (words : List (List ℕ)) (word : List ℕ) (others : List (List ℕ)) → words ≡ word ∷ others → bytes_eq word (codes "@") ≡ false
    → view_words kind size words ≡ view_words (kind_after kind word) (size_after kind size word) others
unfolding view_words
view_on kind size words word others e other = ap (view_words kind size) e ∙ rw other refl
