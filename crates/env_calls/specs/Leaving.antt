-- What a call, and a whole step, leaves, from below: each page that it stores to takes stores, or the absent one was not at hand.
use Rattle.std.specs.Prelude.{ℕ, List, [], All, Result, Ok, Err}
use Rattle.page_memory.specs.declared.words.Access.{Access}
use Rattle.page_memory.specs.Memory.{Memory}
use Rattle.rv_exec.specs.declared.outcome.Outcome.{Outcome}
use Rattle.rv_exec.specs.declared.outcome.Outcome.TheVariants as outcome
use Rattle.rv_exec.specs.Leaves.{Missed, MissedData}
use Rattle.rv_exec.specs.Registers.{Registers}
use Rattle.env_calls.specs.declared.served.ServeStop.{ServeStop}
use Rattle.env_calls.specs.declared.served.ServeStop.TheVariants.{Absent, NoMemory}
use Rattle.env_calls.specs.Calls.{call_stores}

-- of a call that stores to these pages
abbrev pub LeavesCall : {A : Type 0} → (takes : ℕ → Type 0) → (misses : List ℕ → Access → ℕ → Type 0) → List ℕ → Result A ServeStop → Type 0
LeavesCall takes misses stores (Ok answer) = All takes stores
LeavesCall takes misses stores (Err (Absent page)) = MissedData (misses []) stores page
LeavesCall takes misses stores (Err NoMemory) = All takes stores

-- of what follows an instruction: its call, if it makes one
abbrev pub LeavesRest : {A : Type 0} → (takes : ℕ → Type 0) → (misses : List ℕ → Access → ℕ → Type 0) → Outcome → Registers → Memory → Result A ServeStop → Type 0
LeavesRest takes misses outcome.Done regs memory result = Unit {0}
LeavesRest takes misses outcome.Ecall regs memory result = LeavesCall takes misses (call_stores regs memory) result
LeavesRest takes misses (outcome.Trap cause value) regs memory result = Unit {0}
LeavesRest takes misses (outcome.Absent page) regs memory result = Unit {0}

-- of a step whose code is at one page and which stores to these
abbrev pub LeavesStep : {A : Type 0} → (takes marks : ℕ → Type 0) → (misses : List ℕ → Access → ℕ → Type 0) → ℕ → List ℕ → Result A ServeStop → Type 0
LeavesStep takes marks misses code stores (Ok answer) = All takes stores
LeavesStep takes marks misses code stores (Err (Absent page)) = Missed marks misses code stores page
LeavesStep takes marks misses code stores (Err NoMemory) = All takes stores
