-- Many rows that play, skip what came, and tell their counts.
use Rattle.std.specs.Prelude.{List, [], ◌++◌}
use Rattle.std.specs.List.{AllZip}
use Rattle.guest_strings.specs.declared.reference.Reference.{Reference}
use Rattle.miss_counts.specs.Replayed.{HasPlayed, HavePlayed, RowPlays, RowSkips, RowTells, RowsPlay, RowsSkip, RowsTell, TellsPlayed}
use Rattle.miss_counts.specs.declared.counts.PolicyCounts.{PolicyCounts}
use Rattle.miss_counts.specs.declared.rows.Rows.{Rows}
use Rattle.miss_counts.proofs.RowLaws.{zip_through}

pub rows_play : (pages : List Reference) (s t : Rows) → AllZip (RowPlays pages) s.rows.items t.rows.items → RowsPlay pages s t
unfolding RowsPlay HavePlayed
rows_play pages s t each = λ policies frames skipped played fit have.
    zip_through (HasPlayed policies skipped played) (RowPlays pages) (HasPlayed policies skipped (played ++ pages)) (λ number a b h on. on policies skipped played number fit h) frames s.rows.items t.rows.items have each

pub rows_skip : (s t : Rows) → AllZip RowSkips s.rows.items t.rows.items → RowsSkip s t
unfolding RowsSkip HavePlayed
rows_skip s t each = λ policies frames skipped played have.
    zip_through (HasPlayed policies skipped played) RowSkips (HasPlayed policies (skipped ++ played) []) (λ number a b h on. on policies skipped played number h) frames s.rows.items t.rows.items have each

pub rows_tell : (rows : Rows) (counts : List PolicyCounts) → AllZip RowTells rows.rows.items counts → RowsTell rows counts
unfolding RowsTell HavePlayed
rows_tell rows counts each = λ policies frames skipped played have.
    zip_through (HasPlayed policies skipped played) RowTells (TellsPlayed policies skipped played) (λ number row told h on. on policies skipped played number h) frames rows.rows.items counts have each
