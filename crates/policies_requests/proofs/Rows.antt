-- What the values of an argument are, by the rows of the matches.
use Rattle.std.proofs.Common.{◌≡◌, option_map}
use Rattle.clap.specs.Matches.{first_value, matched_of, raw_values}
use Rattle.clap.specs.Walk.{Text, all_of, first_of, rows_of}
use Rattle.clap.specs.declared.parser.matches.Found.{Found}
use Rattle.clap.proofs.WalkLemmas.{first_value-rows, raw_values-rows}

pub value_by_rows : (f : Found) (id : Text) → first_value f id ≡ first_of id (rows_of f)
value_by_rows = first_value-rows

pub values_by_rows : (f : Found) (id : Text) → option_map raw_values (matched_of f id) ≡ all_of id (rows_of f)
values_by_rows = raw_values-rows
