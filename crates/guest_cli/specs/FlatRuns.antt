-- What a run of a program comes to, by the flat machine.
use Rattle.std.specs.Prelude.{◌≡◌, ℕ, ◌≤◌, List, Option, Some, None, length}
use Rattle.std.specs.Io.KnownBytes.{Appends}
use Rattle.elf_image.specs.Start.{Start}
use Rattle.flat_machine.specs.Process.{Process, opening, flat_run}
use Rattle.flat_machine.specs.declared.end.End.{End}
use Rattle.flat_machine.specs.declared.end.End.TheVariants.{Exited, Trapped, Killed}
use Rattle.flat_machine.specs.declared.end.KillCause.TheVariants.{Limit}

-- a program ended as its flat process did, which goes on where the machine ended the program
abbrev pub EndsLike : End → Option End → Type 0
EndsLike (Exited status) own = own ≡ Some (Exited status)
EndsLike (Trapped hart cause pc value) own = own ≡ Some (Trapped hart cause pc value)
EndsLike (Killed cause) own = own ≡ None

-- A flat run has this ending after so many steps, with what was written: as many steps by some order of harts lead to a flat process with
-- that output and ending. No more steps are done than are allowed. If the limit ended the program, it did as many as are allowed.
pub record TellsFlatRun (limit : ℕ) (start : Start) (old new : Option (List ℕ)) (end : End) (steps : ℕ) : Type 0 where
  pub harts : List ℕ
  pub flat : Process
  pub ran : flat_run harts (opening start.image start.input) ≡ Some flat
  pub counted : steps ≡ length harts
  pub written : Appends old new flat.environment.output
  pub ended : EndsLike end flat.ending
  pub within : steps ≤ limit
  pub limited : end ≡ Killed Limit → steps ≡ limit
