-- A search through a table finds what the table has for a name.
use Rattle.std.proofs.Common.{◌≡◌, ℕ, Bool, true, false, List, [], ◌∷◌, map, find, cond, refl, option_map, Bor, Some, IfSome, nat_lt, ◌<◌, ◌++◌}
use Rattle.std.specs.Str.{bytes_eq}
use Rattle.std.specs.List.{list_all}
use Rattle.std.specs.Bool.{⊤}
use Rattle.std.proofs.lemmas.Bool.{and_parts}
use Rattle.std.proofs.lemmas.Option.{MatchOption-at_some}
use borrow.Author.Tests.{ltb-true}
use Rattle.asm_values.specs.Names.{named}
use Rattle.asm_values.specs.Registers.{register_of, abi_names, numbered_names}

-- whatever the answer of the search
pub named_is_found : {A : Type 0} → (name : List ℕ) (table : List (Bor (List ℕ) × A))
    → named (map (λ entry. (entry.0.now, entry.1)) table) name
    ≡ option_map (λ entry. entry.1) (find (λ entry. bytes_eq entry.0.now name) table)
unfolding named
named_is_found name [] = refl
named_is_found {A} name (entry ∷ rest) =
    elim (bytes_eq entry.0.now name) as (λ b. option_map (λ (e : List ℕ × A). e.1) (cond b (Some (entry.0.now, entry.1)) (find (λ e. bytes_eq e.0 name) (map (λ e. (e.0.now, e.1)) rest)))
    ≡ option_map (λ (e : Bor (List ℕ) × A). e.1) (cond b (Some entry) (find (λ e. bytes_eq e.0.now name) rest))) [
      | true ↦ refl
      | false ↦ named_is_found name rest
    ]

-- what holds of each entry holds of what is found
named_all : {A : Type 0} → (test : A → Bool) (table : List (List ℕ × A)) (name : List ℕ)
    → list_all (λ entry. test entry.1) table ≡ true → IfSome (named table name) (λ value. test value ≡ true)
unfolding named
named_all test [] name all = tt
named_all {A} test (entry ∷ rest) name all =
    let both : (test entry.1 ≡ true) × (list_all (λ (e : List ℕ × A). test e.1) rest ≡ true) =
    and_parts (test entry.1) (list_all (λ (e : List ℕ × A). test e.1) rest) all in
    elim (bytes_eq entry.0 name) as (λ b. IfSome (option_map (λ (e : List ℕ × A). e.1) (cond b (Some entry) (find (λ e. bytes_eq e.0 name) rest))) (λ value. test value ≡ true)) [
      | true ↦ both.0
      | false ↦ named_all test rest name both.1
    ]

-- no register's number is above 31
pub registers_fit : (name : List ℕ) (n : ℕ) → register_of name ≡ Some n → n < 32
unfolding register_of
registers_fit name n is =
    ltb-true n 32 (MatchOption-at_some ⊤ (λ m. nat_lt m 32 ≡ true) n is
    (named_all (λ m. nat_lt m 32) (abi_names ++ numbered_names) name refl))
