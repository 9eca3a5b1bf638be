-- A hart's next instruction in a process: what it does to the process, and the pages that it uses.
use Rattle.std.specs.Prelude.{ℕ, ◌+◌, List, [], Option, option_map, unwrap_or}
use Rattle.env_calls.specs.declared.served.ServeStop.{ServeStop}
use Rattle.env_calls.specs.declared.served.ServeStop.TheVariants as serve
use Rattle.env_calls.specs.declared.stepping.Stepped.{Stepped}
use Rattle.env_calls.specs.declared.stepping.Stepped.TheVariants as stepped
use Rattle.env_calls.specs.Effect.{Effect, Runs, Yields, Spawns, Finishes, Exits, Traps}
use Rattle.env_calls.specs.Step.{effect, step_pages, step_stores}
use Rattle.flat_machine.specs.Process.{Process, hart_registers}
use Rattle.space_core.specs.declared.progress.Progress.{Progress}
use Rattle.space_core.specs.declared.progress.Progress.TheVariants.{GoesOn, Yielded, Spawned, HartDone, Ended}
use Rattle.space_core.specs.declared.progress.SliceStop.{SliceStop}
use Rattle.space_core.specs.declared.progress.SliceStop.TheVariants as stop

-- what becomes of the hart and its process by an effect
abbrev pub progress_of : Effect → Progress
progress_of (Runs registers environment memory) = GoesOn
progress_of (Yields registers environment memory) = Yielded
progress_of (Spawns first registers environment memory) = Spawned
progress_of (Finishes registers environment memory) = HartDone
progress_of (Exits status registers environment memory) = Ended
progress_of (Traps cause value) = Ended

-- the same, by what its step came to
abbrev pub progress_of_step : Stepped → Progress
progress_of_step stepped.Ran = GoesOn
progress_of_step stepped.Yielded = Yielded
progress_of_step (stepped.Spawned hart first) = Spawned
progress_of_step stepped.HartDone = HartDone
progress_of_step (stepped.Exited status) = Ended
progress_of_step (stepped.Trapped cause value) = Ended

-- what the next step of a hart does, where the hart was started
unfoldable pub next_effect : ℕ → Process → Option Effect
next_effect hart process = option_map (λ registers. effect hart registers process.environment process.memory) (hart_registers hart process)

unfoldable pub next_progress : ℕ → Process → Option Progress
next_progress hart process = option_map progress_of (next_effect hart process)

-- the pages that the next step of a hart uses
unfoldable pub next_pages : ℕ → Process → List ℕ
next_pages hart process = unwrap_or (option_map (λ registers. step_pages hart registers process.memory) (hart_registers hart process)) []

-- the pages among them that it stores to
unfoldable pub next_stores : ℕ → Process → List ℕ
next_stores hart process = unwrap_or (option_map (λ registers. step_stores hart registers process.memory) (hart_registers hart process)) []

-- the number of instructions whose pages were all there: those that ran, and the next where there was not enough memory for it
abbrev pub answered : SliceStop → ℕ → ℕ
answered stop.Budget ran = ran
answered (stop.Absent page) ran = ran
answered stop.Yield ran = ran
answered stop.HartDone ran = ran
answered stop.Ended ran = ran
answered stop.NoHart ran = ran
answered stop.ScheduleFull ran = ran
answered stop.NoMemory ran = ran + 1

-- how many were begun: those that ran, and the next where a page of it is absent or there was not enough memory for it
abbrev pub begun : SliceStop → ℕ → ℕ
begun stop.Budget ran = ran
begun (stop.Absent page) ran = ran + 1
begun stop.Yield ran = ran
begun stop.HartDone ran = ran
begun stop.Ended ran = ran
begun stop.NoHart ran = ran
begun stop.ScheduleFull ran = ran
begun stop.NoMemory ran = ran + 1

-- why a slice of one instruction stops after it
abbrev pub stop_after : Progress → SliceStop
stop_after GoesOn = stop.Budget
stop_after Spawned = stop.Budget
stop_after Yielded = stop.Yield
stop_after HartDone = stop.HartDone
stop_after Ended = stop.Ended

-- why it stops before one that is not taken
abbrev pub stop_before : ServeStop → SliceStop
stop_before (serve.Absent page) = stop.Absent page
stop_before serve.NoMemory = stop.NoMemory
