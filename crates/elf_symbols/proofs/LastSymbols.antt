-- The last symbol at or below an address.
use Rattle.std.proofs.Common.{◌≡◌, ℕ, ◌<◌, ◌≤◌, false, IsSome, Option, Some, None, nat_cmp, refl, ap, arith}
use Rattle.std.specs.Ordering.{is_gt, is_lt}
use Rattle.std.specs.Option.{option_map}
use Rattle.std.proofs.lemmas.Bool.Decides.{nat_tests}
use Rattle.elf_symbols.specs.declared.symbols.Named.{Named}
use Rattle.elf_symbols.specs.declared.symbols.Symbols.{Symbols}
use Rattle.elf_symbols.specs.Nearest.{standing, symbol_name}
use Rattle.elf_symbols.specs.SymbolTables.{name_of}

-- above it, up to the address, stands none
pub none_between : (symbols : Symbols) (at address : ℕ)
    → ((q : ℕ) → Unit {0} × (is_gt (nat_cmp q address) ≡ false) → IsSome (standing symbols q) → is_lt (nat_cmp at q) ≡ false)
    → (between : ℕ) → at < between → between ≤ address → symbol_name symbols between ≡ None
none_between symbols at address last between above below = choose (standing symbols between) refl
  where
    within : is_gt (nat_cmp between address) ≡ false
    within = grind (arith, nat_tests)

    apart : is_lt (nat_cmp at between) ≡ false → ⊥
    apart e = grind (arith, nat_tests)

    choose : (there : Option Named) → standing symbols between ≡ there → symbol_name symbols between ≡ None
    choose None e = ap (option_map (name_of symbols.names.now)) e
    choose (Some named) e = absurd (apart (last between (tt, within) (ap Rattle.std.specs.Prelude.is_some e)))
