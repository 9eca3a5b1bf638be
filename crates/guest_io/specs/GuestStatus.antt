-- The exit status of `guest run`.
use Rattle.std.specs.Prelude.{ℕ, ◌+◌, ◌%◌}
use Rattle.rv_exec.specs.Causes.{cause_number}
use Rattle.flat_machine.specs.declared.end.End.{End}
use Rattle.flat_machine.specs.declared.end.End.TheVariants.{Exited, Trapped, Killed}

-- the guest's own, of which the lower eight bits are seen; 128 and the number of a trap; 125 for a guest that the machine ended
abbrev pub guest_status : End → ℕ
guest_status (Exited status) = status % 256
guest_status (Trapped hart cause pc value) = 128 + cause_number cause
guest_status (Killed cause) = 125
