-- A process as a value that proofs can distinguish from others.
use Rattle.std.specs.Prelude.{List, Option, refl}
use Rattle.std.specs.Coded.{Coded, code_by, coded×, coded_option, coded_list}
use Rattle.page_memory.specs.Memory.{Memory}
use Rattle.rv_exec.specs.Registers.{Registers}
use Rattle.env_calls.specs.Environment.{Environment}
use Rattle.page_memory.specs.contracts.flat_memory.FlatMemory as memory
use Rattle.rv_exec.specs.contracts.regs.Regs as regs
use Rattle.env_calls.specs.contracts.env.Env as env
use Rattle.flat_machine.specs.contracts.end.End as end
use Rattle.flat_machine.specs.declared.end.End.{End}
use Rattle.flat_machine.specs.Process.{Process}

abbrev pub process_code : Coded Process
process_code =
    code_by (List Registers × (Environment × (Memory × Option End)))
    (coded× (coded_list regs.the_row.coded) (coded× env.the_row.coded (coded× memory.the_row.coded (coded_option end.the_row.coded))))
    (λ p. (p.harts, (p.environment, (p.memory, p.ending))))
    (λ t. record { harts = t.0; environment = t.1.0; memory = t.1.1.0; ending = t.1.1.1 })
    (λ _. refl)
