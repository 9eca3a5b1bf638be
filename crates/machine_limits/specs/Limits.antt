-- The limits of the machine, as clauses cite them.
use Rattle.std.specs.Prelude.{ℕ}

-- how many processes a machine may run
abbrev pub most_processes : ℕ
most_processes = 64
