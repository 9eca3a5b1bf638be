-- What clauses say of a machine under locks: none can say what the locks hold.
use Rattle.std.specs.Prelude.{ℕ, Bool}

-- how many processes it has, of how many slots it was made, how often a process may be tried for, and whether its daemon writes changed
-- pages ahead
pub record SharedValue : Type 0 where
  pub processes : ℕ
  pub slots : ℕ
  pub most_tries : ℕ
  pub ahead : Bool

-- the same of only the locks of its processes
pub record LocksValue : Type 0 where
  pub processes : ℕ
  pub most_tries : ℕ

abbrev pub locks_of : SharedValue → LocksValue
locks_of shared = record { processes = shared.processes; most_tries = shared.most_tries }

-- how often a process may be tried for, for each frame of the machine
abbrev pub tries_per_frame : ℕ
tries_per_frame = 64
