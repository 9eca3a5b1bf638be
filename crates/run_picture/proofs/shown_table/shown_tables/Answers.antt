-- One more table, the next.
use Rattle.std.proofs.Common.{◌∙◌, ap, map}
use Rattle.run_picture.specs.Processes.{set_words, words_in}
use Rattle.run_picture.proofs.Telling.{shown_next}
use Rattle.run_picture.proofs.shown_table.shown_tables.Goals as goal

pub tables-preserved : goal.tables-preserved
tables-preserved c =
    ap (map words_in) c.in_ok-push.ensures.items
    ∙ shown_next set_words words_in c.args.tables.now c.tables.table-index _ c.tables.shown.items _ c.tables-test.true c.tables.invariant c.in_ok-words.ensures
