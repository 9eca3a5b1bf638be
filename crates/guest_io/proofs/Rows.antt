-- The word of an argument, by the rows of the matches.
use Rattle.std.proofs.Common.{◌≡◌}
use Rattle.clap.specs.Matches.{first_value}
use Rattle.clap.specs.Walk.{Text, first_of, rows_of}
use Rattle.clap.specs.declared.parser.matches.Found.{Found}
use Rattle.clap.proofs.WalkLemmas.{first_value-rows}

pub word_by_rows : (f : Found) (id : Text) → first_value f id ≡ first_of id (rows_of f)
word_by_rows = first_value-rows
