-- What stands at an address, as entries are taken in.
use Rattle.std.proofs.Common.{◌≡◌, ◌==◌, ℕ, zero, suc, ◌+◌, Bool, true, false, not, ◌&&◌, ◌||◌, cond, List, [], ◌∷◌, ◌++◌, Option, Some, None, find, refl, sym, ap, ◌∙◌, add-one, arith}
use Rattle.std.specs.List.{range_with_len, filter_map}
use Rattle.std.specs.Option.{option_map, option_or}
use Rattle.std.proofs.lemmas.List.{append-nil}
use Rattle.std.proofs.lemmas.List.Elements.{filter_map-append}
use Rattle.std.proofs.lemmas.List.Folds.{find-append}
use Rattle.elf_symbols.specs.declared.symbols.Entry.{Entry}
use Rattle.elf_symbols.specs.SymbolTables.{entry_at, entries_to, is_at, is_function_at, named_at, with_named, with_entry}

-- one more number
range_more : (start count last : ℕ) → start + count ≡ last → range_with_len start (suc count) ≡ range_with_len start count ++ last ∷ []
range_more start zero last at = let here : start ≡ last = omega arith in ap (λ n. n ∷ []) here
range_more start (suc count) last at = ap (λ l. start ∷ l) (range_more (start + 1) count last (omega arith))

entries_more : (table names : List ℕ) (number : ℕ) (found : Option Entry) → entry_at table names number ≡ found → entries_to table names (number + 1) ≡ entries_to table names number ++ filter_map (λ (o : Option Entry). o) (found ∷ [])
unfolding entries_to
entries_more table names number found is =
    ap (λ n. filter_map (entry_at table names) (range_with_len 0 n)) (add-one number)
    ∙ ap (filter_map (entry_at table names)) (range_more 0 number number (omega arith))
    ∙ filter_map-append (entry_at table names) (range_with_len 0 number) (number ∷ [])
    ∙ ap (λ o. filter_map (entry_at table names) (range_with_len 0 number) ++ filter_map (λ (o : Option Entry). o) (o ∷ [])) is

-- a number that is no place's
pub named_same : (table names : List ℕ) (number address : ℕ) → entry_at table names number ≡ None → named_at (entries_to table names (number + 1)) address ≡ named_at (entries_to table names number) address
named_same table names number address none = ap (λ l. named_at l address) (entries_more table names number None none ∙ append-nil (entries_to table names number))

-- a function among some entries is a function
is_function : (found : List Entry) (address : ℕ) (entry : Entry) → find (is_function_at address) found ≡ Some entry → entry.named.is_function ≡ true
is_function [] address entry at = cc
is_function (one ∷ rest) address entry at = choose (one.address == address) one.named.is_function (is_function rest address entry) refl at
  where
    choose : (here function : Bool) → (find (is_function_at address) rest ≡ Some entry → entry.named.is_function ≡ true) → one.named.is_function ≡ function → cond (here && function) (Some one) (find (is_function_at address) rest) ≡ Some entry → entry.named.is_function ≡ true
    choose true true later its e = let same : one ≡ entry = cc in ap (λ (n : Entry). n.named.is_function) (sym same) ∙ its
    choose true false later its e = later e
    choose false function later its e = later e

-- where there is no function, the first symbol is none
is_no_function : (found : List Entry) (address : ℕ) (entry : Entry) → find (is_function_at address) found ≡ None → find (is_at address) found ≡ Some entry → entry.named.is_function ≡ false
is_no_function [] address entry none at = cc
is_no_function (one ∷ rest) address entry none at = choose (one.address == address) one.named.is_function (is_no_function rest address entry) refl none at
  where
    choose : (here function : Bool) → (find (is_function_at address) rest ≡ None → find (is_at address) rest ≡ Some entry → entry.named.is_function ≡ false) → one.named.is_function ≡ function → cond (here && function) (Some one) (find (is_function_at address) rest) ≡ None → cond here (Some one) (find (is_at address) rest) ≡ Some entry → entry.named.is_function ≡ false
    choose true true later its n e = cc
    choose true false later its n e = let same : one ≡ entry = cc in ap (λ (n : Entry). n.named.is_function) (sym same) ∙ its
    choose false function later its n e = later n e

or_true : (b : Bool) → (b || true) ≡ true
or_true true = refl
or_true false = refl

-- one more entry changes what is named at its address, by the rule
pub named_more : (found : List Entry) (entry : Entry) (address : ℕ) → named_at (found ++ entry ∷ []) address ≡ with_entry entry address (named_at found address)
unfolding named_at
named_more found entry address =
    ap (λ o. option_map (λ (e : Entry). e.named) (option_or o (find (is_at address) (found ++ entry ∷ [])))) (find-append (is_function_at address) found (entry ∷ []))
    ∙ ap (λ o. option_map (λ (e : Entry). e.named) (option_or (option_or (find (is_function_at address) found) (find (is_function_at address) (entry ∷ []))) o)) (find-append (is_at address) found (entry ∷ []))
    ∙ rule (find (is_function_at address) found) (find (is_at address) found) (entry.address == address) entry.named.is_function refl refl refl
  where
    rule : (function symbol : Option Entry) (here is : Bool) → find (is_function_at address) found ≡ function → find (is_at address) found ≡ symbol → entry.named.is_function ≡ is
        → option_map (λ (e : Entry). e.named) (option_or (option_or function (cond (here && is) (Some entry) None)) (option_or symbol (cond here (Some entry) None)))
        ≡ cond here (with_named entry.named (option_map (λ (e : Entry). e.named) (option_or function symbol))) (option_map (λ (e : Entry). e.named) (option_or function symbol))
    rule (Some there) symbol true is f s i = ap (λ b. cond (b || not entry.named.is_function) (Some there.named) (Some entry.named)) (sym (is_function found address there f))
    rule (Some there) symbol false is f s i = refl
    rule None (Some there) true true f s i =
        sym (ap (λ b. cond (b || not entry.named.is_function) (Some there.named) (Some entry.named)) (is_no_function found address there f s) ∙ ap (λ b. cond (not b) (Some there.named) (Some entry.named)) i)
    rule None (Some there) true false f s i =
        sym (ap (λ b. cond (there.named.is_function || not b) (Some there.named) (Some entry.named)) i ∙ ap (λ b. cond b (Some there.named) (Some entry.named)) (or_true there.named.is_function))
    rule None (Some there) false is f s i = refl
    rule None None true true f s i = refl
    rule None None true false f s i = refl
    rule None None false is f s i = refl

-- an entry that is taken in
pub named_added : (table names : List ℕ) (number address : ℕ) (entry : Entry) → entry_at table names number ≡ Some entry → named_at (entries_to table names (number + 1)) address ≡ with_entry entry address (named_at (entries_to table names number) address)
named_added table names number address entry some = ap (λ l. named_at l address) (entries_more table names number (Some entry) some) ∙ named_more (entries_to table names number) entry address

-- before the first
pub named_none : (table names : List ℕ) (address : ℕ) → named_at (entries_to table names 0) address ≡ None
unfolding entries_to named_at
named_none table names address = refl
