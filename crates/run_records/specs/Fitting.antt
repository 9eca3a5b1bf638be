-- The records that a program can have: each number fits its type.
use Rattle.std.specs.Prelude.{◌≡◌, ◌<◌, List, [], ◌∷◌, length}
use Rattle.hex.specs.Hex.{IsBytes}
use Rattle.flat_machine.specs.declared.end.End.{End}
use Rattle.flat_machine.specs.declared.end.End.TheVariants.{Exited, Trapped, Killed}
use Rattle.flat_machine.specs.declared.schedule.Turn.{Turn}
use Rattle.run_records.specs.Records.{RecordValue}
use Rattle.run_records.specs.declared.fingerprint.Fingerprint.{Fingerprint}

pub record IsPrint (print : Fingerprint) : Type 0 where
  pub sized : length print.digest ≡ 32
  pub bytes : IsBytes print.digest
  pub few : print.length < 18446744073709551616

-- some instructions of a hart
pub record IsTurn (turn : Turn) : Type 0 where
  pub hart : turn.hart < 4294967296
  pub some : 0 < turn.count
  pub few : turn.count < 4294967296

abbrev pub AreTurns : List Turn → Type 0
AreTurns [] = Unit {0}
AreTurns (turn ∷ turns) = IsTurn turn × AreTurns turns

abbrev pub IsEnd : End → Type 0
IsEnd (Exited status) = status < 4294967296
IsEnd (Trapped hart cause pc value) = (hart < 4294967296) × (pc < 4294967296) × (value < 4294967296)
IsEnd (Killed cause) = Unit {0}

pub record IsRecord (told : RecordValue) : Type 0 where
  pub image : IsPrint told.image
  pub input : IsPrint told.input
  pub turns : AreTurns told.turns
  pub ended : IsEnd told.closing.end
  pub steps : told.closing.steps < 18446744073709551616
  pub output : IsPrint told.closing.output
