-- What one more step of a string does.
use Rattle.std.specs.Prelude.{◌≡◌, ◌<◌, ◌+◌}
use Rattle.flat_machine.specs.ByTurns.{turn_after}
use Rattle.guest_steps.specs.Telling.{TellsStep}
use Rattle.guest_steps.specs.declared.told_step.ToldStep.{ToldStep}
use Rattle.guest_steps.specs.declared.step_string.StepString.{StepString}

-- The hart whose turn it was did the reported step. The step was allowed and is counted, and it is the next hart's turn.
pub record Moves (told : ToldStep) (old new : StepString) : Type 0 where
  pub told_is : TellsStep told old.turn old.process new.process
  pub turn : new.turn ≡ turn_after old.turn new.process
  pub allowed : old.done < old.limit
  pub counted : new.done ≡ old.done + 1
  pub limit : new.limit ≡ old.limit
