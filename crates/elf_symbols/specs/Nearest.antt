-- The names that a table of symbols gives, and the nearest one of an address.
use Rattle.std.specs.Prelude.{◌≡◌, ℕ, ◌+◌, ◌<◌, ◌≤◌, List, Option, Some, None}
use Rattle.std.specs.Ordering.{nat_cmp}
use Rattle.std.specs.Option.{option_map}
use Rattle.std.specs.BTreeMap.{get}
use Rattle.elf_symbols.specs.declared.place.Place.{Place}
use Rattle.elf_symbols.specs.declared.symbols.Named.{Named}
use Rattle.elf_symbols.specs.declared.symbols.Symbols.{Symbols}
use Rattle.elf_symbols.specs.SymbolTables.{name_of}

-- the symbol that is kept at an address
abbrev pub standing : Symbols → ℕ → Option Named
standing symbols address = get nat_cmp symbols.by_address address

-- the name of the symbol at an address
abbrev pub symbol_name : Symbols → ℕ → Option (List ℕ)
symbol_name symbols address = option_map (name_of symbols.names.now) (standing symbols address)

-- the place of an address is given by the symbol of the greatest address at or below it
pub record IsNearest (symbols : Symbols) (address : ℕ) (place : Place) : Type 0 where
  pub sum : place.address + place.offset ≡ address
  pub named : symbol_name symbols place.address ≡ Some place.name.now
  pub last : (between : ℕ) → place.address < between → between ≤ address → symbol_name symbols between ≡ None
