-- A process without its memory, as a value that proofs can distinguish from others.
use Rattle.std.specs.Prelude.{List, Option, refl}
use Rattle.std.specs.Coded.{Coded, code_by, coded×, coded_option, coded_list}
use Rattle.rv_exec.specs.Registers.{Registers}
use Rattle.env_calls.specs.Environment.{Environment}
use Rattle.rv_exec.specs.contracts.regs.Regs as regs
use Rattle.env_calls.specs.contracts.env.Env as env
use Rattle.flat_machine.specs.contracts.end.End as end
use Rattle.flat_machine.specs.declared.end.End.{End}
use Rattle.flat_machine.specs.contracts.schedule.Turn as turn
use Rattle.flat_machine.specs.declared.schedule.Turn.{Turn}
use Rattle.space_core.specs.RunningValue.{RunningValue, RecordedValue}

abbrev pub running_code : Coded RunningValue
running_code =
    code_by (List Registers × (Environment × Option End))
    (coded× (coded_list regs.the_row.coded) (coded× env.the_row.coded (coded_option end.the_row.coded)))
    (λ p. (p.harts, (p.environment, p.ending)))
    (λ t. record { harts = t.0; environment = t.1.0; ending = t.1.1 })
    (λ _. refl)

abbrev pub recorded_code : Coded RecordedValue
recorded_code =
    code_by (RunningValue × List Turn)
    (coded× running_code (coded_list turn.the_row.coded))
    (λ p. (p.running, p.schedule))
    (λ t. record { running = t.0; schedule = t.1 })
    (λ _. refl)
