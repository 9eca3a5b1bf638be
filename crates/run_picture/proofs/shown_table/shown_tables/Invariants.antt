use Rattle.std.proofs.Common.{◌≡◌, map, take}
use Rattle.run_picture.specs.Processes.{set_words, words_in}
use Rattle.run_picture.proofs.shown_table.shown_tables.Given as goal

abbrev pub invariant-tables : goal.invariant-tables
invariant-tables l = map words_in l.shown.items ≡ map set_words (take l.table-index l.tables)
