-- What an answer of `serve` says of the call's effect.
use Rattle.std.specs.Prelude.{◌≡◌, ℕ, ◌+◌, ◌<◌, ◌⊎◌, List, length, Contains, Result, Ok, Err}
use Rattle.page_memory.specs.Memory.{Memory}
use Rattle.rv_exec.specs.Registers.{Registers}
use Rattle.rv_exec.specs.Outcomes.{Used}
use Rattle.env_calls.specs.declared.served.Served.{Served}
use Rattle.env_calls.specs.declared.served.Served.TheVariants.{Continue, Yield, HartDone, Ended, Spawned}
use Rattle.env_calls.specs.declared.served.ServeStop.{ServeStop}
use Rattle.env_calls.specs.declared.served.ServeStop.TheVariants.{Absent, NoMemory}
use Rattle.env_calls.specs.Environment.{Environment}
use Rattle.env_calls.specs.Effect.{Effect, Runs, Yields, Spawns, Finishes, Exits, Traps}

-- the call was served, and left these registers, environment and memory
abbrev pub Serves : Effect → Served → Registers → Environment → Memory → Type 0
Serves effect Continue regs env memory = effect ≡ Runs regs env memory
Serves effect Yield regs env memory = effect ≡ Yields regs env memory
Serves effect HartDone regs env memory = effect ≡ Finishes regs env memory
Serves effect (Ended status) regs env memory = effect ≡ Exits status regs env memory
Serves effect (Spawned hart first) regs env memory = (effect ≡ Spawns first regs env memory) × (hart + 1 ≡ length env.live)

-- after it the output is longer, or more pages are mapped
abbrev pub Grows : Environment → Environment → Type 0
Grows before after = (length before.output < length after.output) ⊎ (before.pages < after.pages)

-- the effect is one that takes memory
abbrev pub TakesMemory : Environment → Effect → Type 0
TakesMemory env (Runs regs after memory) = Grows env after
TakesMemory env (Yields regs after memory) = ⊥
TakesMemory env (Spawns first regs after memory) = ⊥
TakesMemory env (Finishes regs after memory) = ⊥
TakesMemory env (Exits status regs after memory) = ⊥
TakesMemory env (Traps cause value) = ⊥

-- the pages that the call uses were used; or the bus lacked the one of them that is absent
abbrev pub UsesPages : {A : Type 0} → (has marks lacks : ℕ → Type 0) → List ℕ → Result A ServeStop → Type 0
UsesPages has marks lacks pages (Ok served) = Used has marks pages
UsesPages has marks lacks pages (Err (Absent page)) = Contains pages page × lacks page
UsesPages has marks lacks pages (Err NoMemory) = Used has marks pages
