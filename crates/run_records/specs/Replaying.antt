-- What a record comes to when it is replayed.
use Rattle.std.specs.Prelude.{◌≡◌, ◌≢◌, ℕ, ◌<◌, ⊤, List, length, take, slice_index_or, Option, Some, None}
use Rattle.flat_machine.specs.Process.{Process, flat_run}
use Rattle.flat_machine.specs.Refusals.{StopsAt}
use Rattle.flat_machine.specs.Schedule.{written_out, room, IsJoined}
use Rattle.flat_machine.specs.declared.end.End.{End}
use Rattle.flat_machine.specs.declared.end.End.TheVariants.{Exited, Trapped, Killed}
use Rattle.flat_machine.specs.declared.schedule.Turn.{Turn}
use Rattle.flat_machine.specs.declared.stepping.StepRefusal.TheVariants as refusals
use Rattle.run_records.specs.Records.{RecordValue}
use Rattle.run_records.specs.Prints.{print_of}
use Rattle.run_records.specs.declared.replaying.ReplayFault.{ReplayFault}
use Rattle.run_records.specs.declared.replaying.ReplayFault.TheVariants.{TooManyTurns, OtherSteps, HasEnded, NotLive, OtherEnd, OtherOutput, NoMemory}

-- the machine ended it
abbrev pub IsKill : End → Type 0
IsKill (Exited status) = ⊥
IsKill (Trapped hart cause pc value) = ⊥
IsKill (Killed cause) = ⊤

-- the ending of a process, by its own; or it goes on, where the machine ended it
abbrev pub EndsLike : End → Option End → Type 0
EndsLike end None = IsKill end
EndsLike end (Some own) = own ≡ end

-- the flat run of a record's turns leads to a process that has its ending and its output, after as many steps
pub record Replays (told : RecordValue) (before after : Process) : Type 0 where
  pub ran : flat_run (written_out told.turns) before ≡ Some after
  pub steps : length (written_out told.turns) ≡ told.closing.steps
  pub ended : EndsLike told.closing.end after.ending
  pub output : print_of after.environment.output ≡ told.closing.output

-- the schedule of the first turns takes no more of the next one
pub record TakesNoMore (turns : List Turn) : Type 0 where
  pub before : ℕ
  pub next : Turn
  pub schedule : List Turn
  pub joined : IsJoined schedule
  pub there : before < length turns
  pub is_next : next ≡ slice_index_or turns before next
  pub same : written_out schedule ≡ written_out (take before turns)
  pub full : room schedule next.hart < next.count

-- why a run by these harts stops
abbrev pub StopsRun : ReplayFault → List ℕ → Process → Process → Type 0
StopsRun TooManyTurns harts before after = ⊥
StopsRun OtherSteps harts before after = ⊥
StopsRun (HasEnded done) harts before after = StopsAt harts before refusals.Ended done after
StopsRun (NotLive done) harts before after = StopsAt harts before refusals.NoHart done after
StopsRun OtherEnd harts before after = ⊥
StopsRun OtherOutput harts before after = ⊥
StopsRun NoMemory harts before after = ⊤

-- why a record does not replay. No step was taken where its turns are wrong; lack of memory says nothing of it
abbrev pub StopsReplay : ReplayFault → RecordValue → Process → Process → Type 0
StopsReplay TooManyTurns told before after = TakesNoMore told.turns × (after ≡ before)
StopsReplay OtherSteps told before after = (length (written_out told.turns) ≢ told.closing.steps) × (after ≡ before)
StopsReplay (HasEnded done) told before after = StopsAt (written_out told.turns) before refusals.Ended done after
StopsReplay (NotLive done) told before after = StopsAt (written_out told.turns) before refusals.NoHart done after
StopsReplay OtherEnd told before after = (flat_run (written_out told.turns) before ≡ Some after) × (¬ EndsLike told.closing.end after.ending)
StopsReplay OtherOutput told before after = (flat_run (written_out told.turns) before ≡ Some after) × (print_of after.environment.output ≢ told.closing.output)
StopsReplay NoMemory told before after = ⊤
