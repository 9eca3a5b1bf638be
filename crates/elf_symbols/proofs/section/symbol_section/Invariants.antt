use Rattle.std.proofs.Common.{◌≡◌, find, ◌-◌}
use Rattle.elf_symbols.specs.Sections.{is_symbol_table, section_count, sections, sections_from}
use Rattle.elf_symbols.proofs.section.symbol_section.Given as goal

abbrev pub invariant-sections : goal.invariant-sections
invariant-sections l = find is_symbol_table (sections l.file) ≡ find is_symbol_table (sections_from l.file l.number (section_count l.file - l.number))
