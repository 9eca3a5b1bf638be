-- What may be asked for.
use Rattle.std.specs.Prelude.{ℕ, ◌<◌, ◌≤◌, ⊤}
use Rattle.run_recorder.specs.declared.request.Driver.{Driver}
use Rattle.run_recorder.specs.declared.request.Driver.TheVariants.{Serial, Workers}
use Rattle.run_recorder.specs.declared.request.RecordRequest.{RecordRequest}

-- there is a thread that runs the harts
abbrev pub IsManned : Driver → Type 0
IsManned (Serial limit) = ⊤
IsManned (Workers workers ahead) = 0 < workers

pub record IsInRange (request : RecordRequest) : Type 0 where
  pub least : 4 ≤ request.frames
  pub most : request.frames ≤ 4096
  pub some : 0 < request.slice
  pub manned : IsManned request.driver
