-- A debugger's machine on slots that hold zeros.
use Rattle.std.proofs.Common.{◌≡◌, ℕ, List, replicate, subst}
use Rattle.elf_image.specs.Start.{Start}
use Rattle.machine_core.specs.Machine.{CoreValue}
use Rattle.machine_core.specs.Opening.{MachineBegins}
use Rattle.swap_slots.specs.Slot.{zero_content}

pub begins_on : (frames count : ℕ) (slots : List (List ℕ)) (starts : List Start) (core : CoreValue (List ℕ)) → slots ≡ replicate count zero_content → MachineBegins frames slots starts core
    → MachineBegins frames (replicate count zero_content) starts core
begins_on frames count slots starts core zeros begins = subst (λ free. MachineBegins frames free starts core) zeros begins
