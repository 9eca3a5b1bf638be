use Rattle.std.proofs.Common.{◌≡◌, ℕ}
use Rattle.elf_symbols.specs.Nearest.{standing}
use Rattle.elf_symbols.specs.SymbolTables.{entries_to, named_at}
use Rattle.elf_symbols.proofs.symbols.Symbols.of_table.Given as goal

abbrev pub invariant-symbols : goal.invariant-symbols
invariant-symbols l = record {
  names : l.symbols.names.now ≡ l.names;
  standing : (address : ℕ) → standing l.symbols address ≡ named_at (entries_to l.table l.names l.number) address;
}
