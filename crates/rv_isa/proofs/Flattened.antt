-- A table of tables of rows, as one list.
use Rattle.std.proofs.Common.{◌≡◌, ℕ, zero, suc, ◌+◌, ◌*◌, ◌<◌, List, [], ◌∷◌, ◌++◌, length, get_or, refl, ap, sym, ◌∙◌, subst, arith}
use Rattle.std.proofs.lemmas.List.{get_or-append-add, get_or_append_left}
use Rattle.std.proofs.lemmas.Grind.{flat_map-append}
use Rattle.std.specs.List.{flat_map}

-- tables of rows in one list, and those in one
pub in_one : {A : Type 0} (tables : List (List (List A)))
    → flat_map (λ x. x) (flat_map (λ x. x) tables) ≡ flat_map (λ table. flat_map (λ x. x) table) tables
in_one [] = refl
in_one (table ∷ tables) = flat_map-append (λ x. x) table (flat_map (λ x. x) tables) ∙ ap (λ rest. flat_map (λ x. x) table ++ rest) (in_one tables)

step_on : (i n j : ℕ) → j + suc i * n ≡ n + (j + i * n)
step_on i n j = grind arith

-- the place of an element, where all lists have one length
pub placed : {A X : Type 0} (f : X → List A) (n : ℕ) → ((x : X) → length (f x) ≡ n) → (xs : List X) (i j : ℕ) (e : X) (d : A) → i < length xs → j < n
    → get_or (flat_map f xs) (j + i * n) d ≡ get_or (f (get_or xs i e)) j d
placed f n even [] i j e d h g = absurd (omega arith)
placed f n even (x ∷ xs) zero j e d h g =
    let here : j + 0 * n ≡ j = omega arith in
    let within : j < length (f x) = subst (λ k. j < k) (sym (even x)) g in
    ap (λ k. get_or (f x ++ flat_map f xs) k d) here ∙ get_or_append_left (f x) (flat_map f xs) d j within
placed f n even (x ∷ xs) (suc i) j e d h g =
    let below : i < length xs = omega arith in
    let there : j + suc i * n ≡ length (f x) + (j + i * n) = step_on i n j ∙ ap (λ k. k + (j + i * n)) (sym (even x)) in
    ap (λ k. get_or (f x ++ flat_map f xs) k d) there ∙ get_or-append-add (f x) (flat_map f xs) (j + i * n) d ∙ placed f n even xs i j e d below g
