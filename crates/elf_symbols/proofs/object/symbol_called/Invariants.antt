use Rattle.std.proofs.Common.{◌≡◌, ◌-◌, ◌/◌, length}
use Rattle.elf_symbols.specs.Objects.{called_from}
use Rattle.elf_symbols.proofs.object.symbol_called.Given as goal

abbrev pub invariant-symbols : goal.invariant-symbols
invariant-symbols l = called_from l.name l.table l.names 0 (length l.table / 16) ≡ called_from l.name l.table l.names l.number (length l.table / 16 - l.number)
