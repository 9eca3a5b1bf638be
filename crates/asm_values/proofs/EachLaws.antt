-- The loop over a list of values: how it begins, goes on, stops and ends.
use Rattle.std.proofs.Common.{◌≡◌, ℕ, ◌+◌, ◌<◌, ◌≤◌, List, [], ◌∷◌, ◌++◌, Result, Ok, Err, length, get_or, drop, refl, sym, ap, ◌∙◌, append_assoc}
use Rattle.std.proofs.lemmas.List.{drop_all, drop_more, append-nil}
use Rattle.asm_lines.specs.declared.operand.Operand.{Operand}
use Rattle.asm_lines.specs.declared.fault.FaultKind.{FaultKind}
use Rattle.asm_values.specs.Answers.{map_ok}
use Rattle.asm_values.specs.Directives.{each_of, append_first}

-- what has been read, and what comes of the rest
unfoldable pub continued : {A : Type 0} → List A → Result (List A) FaultKind → Result (List A) FaultKind
continued parts rest = map_ok (λ more. parts ++ more) rest

pub each_of_starts : {A : Type 0} (rest : Result (List A) FaultKind) → rest ≡ continued [] rest
unfolding continued
each_of_starts (Ok more) = refl
each_of_starts (Err fault) = refl

-- one more element of the list that is left
each_of_next : {A : Type 0} (read : Operand → Result A FaultKind) (xs : List Operand) (i : ℕ) (x : Operand)
    → i < length xs → x ≡ get_or xs i x
    → each_of read (drop i xs) ≡ append_first (read x) (each_of read (drop (i + 1) xs))
unfolding each_of
each_of_next read xs i x h is =
    ap (each_of read) (drop_more xs i x h) ∙ ap (λ y. append_first (read y) (each_of read (drop (i + 1) xs))) (sym is)

continued_push : {A : Type 0} (parts : List A) (y : A) (rest : Result (List A) FaultKind)
    → continued parts (append_first (Ok y) rest) ≡ continued (parts ++ y ∷ []) rest
unfolding continued
continued_push parts y (Ok more) = ap Ok (sym (append_assoc parts (y ∷ []) more))
continued_push parts y (Err fault) = refl

pub each_of_goes_on : {A : Type 0} (read : Operand → Result A FaultKind) (xs : List Operand) (parts : List A) (i : ℕ) (x : Operand) (y : A)
    → each_of read xs ≡ continued parts (each_of read (drop i xs))
    → i < length xs → x ≡ get_or xs i x → read x ≡ Ok y
    → each_of read xs ≡ continued (parts ++ y ∷ []) (each_of read (drop (i + 1) xs))
each_of_goes_on read xs parts i x y so_far h is gives =
    so_far ∙ ap (continued parts) (each_of_next read xs i x h is)
    ∙ ap (λ r. continued parts (append_first r (each_of read (drop (i + 1) xs)))) gives
    ∙ continued_push parts y (each_of read (drop (i + 1) xs))

pub each_of_stops : {A : Type 0} (read : Operand → Result A FaultKind) (xs : List Operand) (parts : List A) (i : ℕ) (x : Operand) (fault : FaultKind)
    → each_of read xs ≡ continued parts (each_of read (drop i xs))
    → i < length xs → x ≡ get_or xs i x → read x ≡ Err fault
    → each_of read xs ≡ Err fault
unfolding continued
each_of_stops read xs parts i x fault so_far h is gives =
    so_far ∙ ap (continued parts) (each_of_next read xs i x h is)
    ∙ ap (λ r. continued parts (append_first r (each_of read (drop (i + 1) xs)))) gives

pub each_of_ends : {A : Type 0} (read : Operand → Result A FaultKind) (xs : List Operand) (parts : List A) (i : ℕ)
    → each_of read xs ≡ continued parts (each_of read (drop i xs)) → length xs ≤ i
    → each_of read xs ≡ Ok parts
unfolding continued each_of
each_of_ends read xs parts i so_far h =
    so_far ∙ ap (λ rest. continued parts (each_of read rest)) (drop_all i xs h) ∙ ap Ok (append-nil parts)
