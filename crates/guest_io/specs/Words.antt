-- The words of a command.
use Rattle.std.specs.Prelude.{ℕ, List, Option, codes, true}
use Rattle.clap.specs.Matches.{found_of}
use Rattle.clap.specs.Simple.{App, new_app, on_top}
use Rattle.clap.specs.Walk.{first_of, rows_of}
use Rattle.clap.specs.declared.parser.matches.ArgMatches.{ArgMatches}

-- the word of an argument, if one was given
abbrev pub word_of : List ℕ → ArgMatches → Option (List ℕ)
word_of name matches = first_of name (rows_of (found_of matches))

-- the program with no command
unfoldable pub bare_guest : App
bare_guest = on_top (λ s. record s { no_binary_name = true; subcommand_required = true }) (new_app (codes "guest"))
