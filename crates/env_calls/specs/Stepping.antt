-- Facts of an answer that reports what a step did to a hart: its effect, and what does not change.
use Rattle.std.specs.Prelude.{◌≡◌, ◌+◌, length, Result, Ok, Err}
use Rattle.page_memory.specs.Memory.{Memory}
use Rattle.rv_exec.specs.Registers.{Registers}
use Rattle.env_calls.specs.declared.served.Served.{Served}
use Rattle.env_calls.specs.declared.served.Served.TheVariants as served
use Rattle.env_calls.specs.declared.served.ServeStop.{ServeStop}
use Rattle.env_calls.specs.declared.stepping.Stepped.{Stepped}
use Rattle.env_calls.specs.declared.stepping.Stepped.TheVariants.{Ran, Yielded, Spawned, HartDone, Exited, Trapped}
use Rattle.env_calls.specs.Environment.{Environment}
use Rattle.env_calls.specs.Effect.{Effect, Runs, Yields, Spawns, Finishes, Exits, Traps}

-- what the hart did has this effect, and left these registers, environment and memory
abbrev pub IsEffect : Effect → Stepped → Registers → Environment → Memory → Type 0
IsEffect effect Ran regs env memory = effect ≡ Runs regs env memory
IsEffect effect Yielded regs env memory = effect ≡ Yields regs env memory
IsEffect effect (Spawned hart first) regs env memory = (effect ≡ Spawns first regs env memory) × (hart + 1 ≡ length env.live)
IsEffect effect HartDone regs env memory = effect ≡ Finishes regs env memory
IsEffect effect (Exited status) regs env memory = effect ≡ Exits status regs env memory
IsEffect effect (Trapped cause value) regs env memory = effect ≡ Traps cause value

-- a fact that holds where the step trapped, and where it was not taken
abbrev pub Stays : Result Stepped ServeStop → Type 0 → Type 0
Stays (Ok Ran) fact = Unit {0}
Stays (Ok Yielded) fact = Unit {0}
Stays (Ok (Spawned hart first)) fact = Unit {0}
Stays (Ok HartDone) fact = Unit {0}
Stays (Ok (Exited status)) fact = Unit {0}
Stays (Ok (Trapped cause value)) fact = fact
Stays (Err stop) fact = fact

-- what became of a hart whose call was served
abbrev pub served_step : Served → Stepped
served_step served.Continue = Ran
served_step served.Yield = Yielded
served_step served.HartDone = HartDone
served_step (served.Ended status) = Exited status
served_step (served.Spawned hart first) = Spawned hart first
