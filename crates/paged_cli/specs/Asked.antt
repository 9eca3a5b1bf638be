-- What the command that runs machines does with its request. `gives` relates a name to the bytes that a file of that name may be found to
-- hold; `old` and `new` are the contents of the output before and after.
use Rattle.std.specs.Prelude.{ℕ, List, Option}
use Rattle.command_line.specs.declared.request.RunRequest.{RunRequest}
use Rattle.command_line.specs.declared.request.Threading.{Threading}
use Rattle.command_line.specs.declared.request.Threading.TheVariants.{Serial, Workers}
use Rattle.serial_commands.specs.Asked.{RunsAsAsked}
use Rattle.paged_cli.specs.Running.{IsRunAsAsked}

module _ (gives : List ℕ → List ℕ → Type 0) where
  -- on one thread, or by as many workers as were asked for, with pages written ahead where that was asked for
  abbrev pub RunsByThreading : {F : Type 0} → (List ℕ → F → Type 0) → Threading → RunRequest → Option (List ℕ) → Option (List ℕ) → ℕ → Type 0
  RunsByThreading makes Serial request old new status = RunsAsAsked gives makes request old new status
  RunsByThreading makes (Workers workers told ahead) request old new status = IsRunAsAsked gives makes request workers ahead old new status
