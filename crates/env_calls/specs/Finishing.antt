-- How a step ends, once its instruction came to an outcome: by the registers, environment and memory that the instruction left.
use Rattle.std.specs.Prelude.{◌≡◌, ℕ, Bool, List, [], Result, Ok, Err, IfOk}
use Rattle.page_memory.specs.Memory.{Memory}
use Rattle.rv_exec.specs.declared.outcome.Outcome.{Outcome}
use Rattle.rv_exec.specs.declared.outcome.Outcome.TheVariants as outcome
use Rattle.rv_exec.specs.Bounds.{Bounds}
use Rattle.rv_exec.specs.Line as line
use Rattle.rv_exec.specs.Outcomes.{Follows, UnlessDone}
use Rattle.rv_exec.specs.Outcomes as instruction
use Rattle.rv_exec.specs.Registers.{Registers}
use Rattle.rv_exec.specs.Uses.{pages_used, pages_stored}
use Rattle.env_calls.specs.declared.served.ServeStop.{ServeStop}
use Rattle.env_calls.specs.declared.served.ServeStop.TheVariants.{Absent, NoMemory}
use Rattle.env_calls.specs.declared.stepping.Stepped.{Stepped}
use Rattle.env_calls.specs.declared.stepping.Stepped.TheVariants.{Ran, Trapped}
use Rattle.env_calls.specs.Environment.{Environment}
use Rattle.env_calls.specs.Effect.{Effect, Runs, Traps}
use Rattle.env_calls.specs.Calls.{call, call_pages, call_stores}
use Rattle.env_calls.specs.Serving.{TakesMemory, UsesPages}
use Rattle.env_calls.specs.Step.{effect, step_pages, step_stores}
use Rattle.env_calls.specs.Stepping.{IsEffect, Stays}

-- what the rest of the step does: for an ECALL what its call does, else nothing more
abbrev pub rest_effect : Outcome → ℕ → Registers → Environment → Memory → Effect
rest_effect outcome.Done hart regs env memory = Runs regs env memory
rest_effect outcome.Ecall hart regs env memory = call hart regs env memory
rest_effect (outcome.Trap cause value) hart regs env memory = Traps cause value
rest_effect (outcome.Absent page) hart regs env memory = Runs regs env memory

-- the pages that the rest uses
abbrev pub rest_pages : Outcome → Registers → Memory → List ℕ
rest_pages outcome.Done regs memory = []
rest_pages outcome.Ecall regs memory = call_pages regs memory
rest_pages (outcome.Trap cause value) regs memory = []
rest_pages (outcome.Absent page) regs memory = []

-- the pages among them that it stores to
abbrev pub rest_stores : Outcome → Registers → Memory → List ℕ
rest_stores outcome.Done regs memory = []
rest_stores outcome.Ecall regs memory = call_stores regs memory
rest_stores (outcome.Trap cause value) regs memory = []
rest_stores (outcome.Absent page) regs memory = []

-- the pages that a call uses were used, or the bus lacked the one of them that is absent; with no call the outcome is the answer
abbrev pub RestUses : (has marks lacks : ℕ → Type 0) → Outcome → Registers → Memory → Result Stepped ServeStop → Type 0
RestUses has marks lacks outcome.Done regs memory result = result ≡ Ok Ran
RestUses has marks lacks outcome.Ecall regs memory result = UsesPages has marks lacks (call_pages regs memory) result
RestUses has marks lacks (outcome.Trap cause value) regs memory result = result ≡ Ok (Trapped cause value)
RestUses has marks lacks (outcome.Absent page) regs memory result = result ≡ Err (Absent page)

-- ---- the parts of a step, and a whole one, by what the bus had, marked and lacked

-- an instruction came to this outcome
pub record CameTo (has marks lacks : ℕ → Type 0) (before after : (ℕ → Bool) → (ℕ → Bool) → Type 0) (hart : ℕ) (outcome : Outcome) (regs : Registers) (memory : Memory) (regs' : Registers) (memory' : Memory) : Type 0 where
  pub line_is : Follows (line.line hart regs memory) outcome regs' memory'
  pub regs_stay : UnlessDone outcome (regs' ≡ regs)
  pub memory_stays : UnlessDone outcome (memory' ≡ memory)
  pub pages : instruction.UsesPages has marks lacks (pages_used regs memory) outcome
  pub bound : Bounds before after (pages_used regs memory) (pages_stored regs memory)

-- the rest of the step had this answer
pub record IsRest (has marks lacks : ℕ → Type 0) (before after : (ℕ → Bool) → (ℕ → Bool) → Type 0) (hart : ℕ) (outcome : Outcome) (regs : Registers) (env : Environment) (memory : Memory)
    (result : Result Stepped ServeStop) (regs' : Registers) (env' : Environment) (memory' : Memory) : Type 0 where
  pub stepped : IfOk result (λ stepped. IsEffect (rest_effect outcome hart regs env memory) stepped regs' env' memory')
  pub regs_stay : Stays result (regs' ≡ regs)
  pub env_stays : Stays result (env' ≡ env)
  pub memory_stays : Stays result (memory' ≡ memory)
  pub pages : RestUses has marks lacks outcome regs memory result
  pub bound : Bounds before after (rest_pages outcome regs memory) (rest_stores outcome regs memory)
  pub no_memory : result ≡ Err NoMemory → TakesMemory env (rest_effect outcome hart regs env memory)

-- the step had it
pub record IsStep (has marks lacks : ℕ → Type 0) (before after : (ℕ → Bool) → (ℕ → Bool) → Type 0) (hart : ℕ) (regs : Registers) (env : Environment) (memory : Memory)
    (result : Result Stepped ServeStop) (regs' : Registers) (env' : Environment) (memory' : Memory) : Type 0 where
  pub stepped : IfOk result (λ stepped. IsEffect (effect hart regs env memory) stepped regs' env' memory')
  pub regs_stay : Stays result (regs' ≡ regs)
  pub env_stays : Stays result (env' ≡ env)
  pub memory_stays : Stays result (memory' ≡ memory)
  pub pages : UsesPages has marks lacks (step_pages hart regs memory) result
  pub bound : Bounds before after (step_pages hart regs memory) (step_stores hart regs memory)
  pub no_memory : result ≡ Err NoMemory → TakesMemory env (effect hart regs env memory)
