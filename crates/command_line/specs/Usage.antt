-- Words that make no request.
use Rattle.std.specs.Prelude.{◌≢◌, ◌⊎◌, List, []}
use Rattle.clap.specs.Faults.{fault_of}
use Rattle.clap.specs.Simple.{subcommand_of}
use Rattle.clap.specs.Walk.{Text}
use Rattle.command_line.specs.Commands.{paged_app}
use Rattle.command_line.specs.Requests.{IsAsked}
use Rattle.command_line.specs.declared.request.Request.{Request}

-- they have a fault, or no command is found among them that asks for something
abbrev pub IsBadUsage : List Text → Type 0
IsBadUsage words = (fault_of paged_app words ≢ []) ⊎ ((request : Request) → ¬ IsAsked (subcommand_of paged_app words) request)
