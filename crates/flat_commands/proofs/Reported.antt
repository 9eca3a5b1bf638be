-- What a run on flat memory came to, by what its parts say.
use Rattle.std.proofs.Common.{◌≡◌, ℕ, ◌≤◌, ◌<◌, List, Option, IsSome, subst}
use Rattle.std.specs.Prelude.{Some, Result, Ok, Err, IfOk, OnOk}
use Rattle.std.specs.Io.KnownBytes.{Appends}
use Rattle.command_line.specs.declared.request.FlatRequest.{FlatRequest}
use Rattle.flat_machine.specs.ByTurns.{by_turns, first_turn}
use Rattle.flat_machine.specs.Process.{Process}
use Rattle.process_text.specs.ExitStatus.{exit_status, ending_of}
use Rattle.process_text.specs.ProcessText.{process_text}
use Rattle.flat_commands.specs.FlatRun.{FlatAsAsked, IsOpened, RunsToEnd}

pub asked : {E : Type 0} (gives : List ℕ → List ℕ → Type 0) (request : FlatRequest) (process : Process) (limit : ℕ) (out out' : Option (List ℕ)) (r : Result ℕ E)
    → IsOpened gives request process → limit ≡ request.limit → IfOk r (RunsToEnd limit process out out') → IfOk r (FlatAsAsked gives request out out')
asked gives request process limit out out' (Ok status) opened same runs = (process, (opened, subst (λ n. RunsToEnd n process out out' status) same runs))
asked gives request process limit out out' (Err why) opened same runs = tt

pub ended : {E : Type 0} (limit steps : ℕ) (process flat : Process) (out out' : Option (List ℕ)) (r : Result ℕ E)
    → (turn : ℕ) × (by_turns steps (first_turn process) process ≡ Some (turn, flat)) → steps ≤ limit → (steps < limit → IsSome flat.ending)
    → OnOk r (Appends out out' (process_text 0 flat.environment.output (ending_of flat.ending) steps)) → IfOk r (λ status. status ≡ exit_status (ending_of flat.ending))
    → IfOk r (RunsToEnd limit process out out')
ended limit steps process flat out out' (Ok status) ran within stops written is = record { steps = steps; flat = flat; ran = ran; within = within; ended = stops; written = written; status_is = is }
ended limit steps process flat out out' (Err why) ran within stops written is = tt
