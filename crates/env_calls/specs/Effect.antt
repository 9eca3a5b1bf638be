-- What a step of a hart, or a call in it, does to its process. "These" are the hart's registers, the environment and
-- the memory after it.
use Rattle.std.specs.Prelude.{ℕ}
use Rattle.page_memory.specs.Memory.{Memory}
use Rattle.rv_exec.specs.declared.cause.Cause.{Cause}
use Rattle.rv_exec.specs.Registers.{Registers}
use Rattle.env_calls.specs.Environment.{Environment}

pub data Effect : Type 0 where
  -- the hart goes on, with these
  Runs : Registers → Environment → Memory → Effect
  -- the hart goes on, with these, and lets others have their turn
  Yields : Registers → Environment → Memory → Effect
  -- one more hart is started, the last one of the environment, with the first registers; the hart goes on, with these
  Spawns : Registers → Registers → Environment → Memory → Effect
  -- the hart is done, and leaves these; another one is live
  Finishes : Registers → Environment → Memory → Effect
  -- the process ends with this exit status, and leaves these
  Exits : ℕ → Registers → Environment → Memory → Effect
  -- the process ends by a trap with this cause and value, and nothing else changes
  Traps : Cause → ℕ → Effect
