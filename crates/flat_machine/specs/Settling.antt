-- What a step leaves of the harts and the ending of a process.
use Rattle.std.specs.Prelude.{ℕ, Bool, true, false, List, [], ◌∷◌, ◌++◌, Option, Some}
use Rattle.rv_exec.specs.Registers.{Registers}
use Rattle.env_calls.specs.declared.stepping.Stepped.{Stepped}
use Rattle.env_calls.specs.declared.stepping.Stepped.TheVariants as stepped
use Rattle.flat_machine.specs.declared.end.End.{End}
use Rattle.flat_machine.specs.declared.end.End.TheVariants.{Exited, Trapped}

-- a new hart comes after the others
abbrev pub harts_after : Stepped → List Registers → List Registers
harts_after stepped.Ran harts = harts
harts_after stepped.Yielded harts = harts
harts_after (stepped.Spawned hart first) harts = harts ++ first ∷ []
harts_after stepped.HartDone harts = harts
harts_after (stepped.Exited status) harts = harts
harts_after (stepped.Trapped cause value) harts = harts

abbrev pub ending_after : ℕ → ℕ → Stepped → Option End → Option End
ending_after hart pc stepped.Ran ending = ending
ending_after hart pc stepped.Yielded ending = ending
ending_after hart pc (stepped.Spawned _ first) ending = ending
ending_after hart pc stepped.HartDone ending = ending
ending_after hart pc (stepped.Exited status) ending = Some (Exited status)
ending_after hart pc (stepped.Trapped cause value) ending = Some (Trapped hart cause pc value)

-- whether the process goes on, with the same harts live
abbrev pub goes_alike : Stepped → Bool
goes_alike stepped.Ran = true
goes_alike stepped.Yielded = true
goes_alike (stepped.Spawned hart first) = false
goes_alike stepped.HartDone = false
goes_alike (stepped.Exited status) = false
goes_alike (stepped.Trapped cause value) = false

-- a fact that is needed where a hart is started
abbrev pub IfSpawns : Stepped → Type 0 → Type 0
IfSpawns stepped.Ran fact = Unit {0}
IfSpawns stepped.Yielded fact = Unit {0}
IfSpawns (stepped.Spawned hart first) fact = fact
IfSpawns stepped.HartDone fact = Unit {0}
IfSpawns (stepped.Exited status) fact = Unit {0}
IfSpawns (stepped.Trapped cause value) fact = Unit {0}
