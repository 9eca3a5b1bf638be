-- The first symbol of a name, as numbers are tried.
use Rattle.std.proofs.Common.{◌≡◌, ℕ, suc, ◌+◌, ◌-◌, ◌<◌, ◌≤◌, Bool, true, false, cond, List, [], ◌∷◌, find, Some, None, ap, ◌∙◌, arith}
use Rattle.std.specs.List.{range_with_len}
use Rattle.elf_symbols.specs.Objects.{called_from, is_called}

step : (name table names : List ℕ) (number count : ℕ) → number < count → called_from name table names number (count - number) ≡ cond (is_called name table names number) (Some number) (called_from name table names (number + 1) (count - (number + 1)))
unfolding called_from
step name table names number count below =
    let left : count - number ≡ suc (count - (number + 1)) = omega arith in
    ap (λ n. find (is_called name table names) (range_with_len number n)) left

pub called_found : (name table names : List ℕ) (number count : ℕ) → number < count → is_called name table names number ≡ true → called_from name table names number (count - number) ≡ Some number
called_found name table names number count below is =
    step name table names number count below ∙ ap (λ b. cond b (Some number) (called_from name table names (number + 1) (count - (number + 1)))) is

pub called_passed : (name table names : List ℕ) (number count : ℕ) → number < count → is_called name table names number ≡ false
    → called_from name table names number (count - number) ≡ called_from name table names (number + 1) (count - (number + 1))
called_passed name table names number count below is =
    step name table names number count below ∙ ap (λ b. cond b (Some number) (called_from name table names (number + 1) (count - (number + 1)))) is

pub none_called : (name table names : List ℕ) (number count : ℕ) → count ≤ number → called_from name table names number (count - number) ≡ None
unfolding called_from
none_called name table names number count past =
    let left : count - number ≡ 0 = omega arith in
    ap (λ n. find (is_called name table names) (range_with_len number n)) left
