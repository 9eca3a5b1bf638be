-- What a read leaves, and a step by its instruction and what follows it.
use Rattle.std.specs.Prelude.{◌≡◌, ℕ, List, [], ◌∷◌, ◌++◌, All, Bool, Result, Ok, Err, IsOk}
use Rattle.std.proofs.Common.{sym, subst, inl, inr, ap, ◌∙◌, append-nil}
use Rattle.page_memory.specs.declared.fault.MemoryFault.{MemoryFault}
use Rattle.page_memory.specs.declared.words.Access.{Access}
use Rattle.page_memory.specs.declared.words.Access.TheVariants.{Load, Store}
use Rattle.page_memory.specs.Words.{page_number}
use Rattle.page_memory.specs.Pages.{usable}
use Rattle.page_memory.specs.Memory.{Memory, copied_in}
use Rattle.rv_exec.specs.declared.cause.Cause.{Cause}
use Rattle.rv_exec.specs.declared.outcome.Outcome.{Outcome}
use Rattle.rv_exec.specs.declared.outcome.Outcome.TheVariants as outcome
use Rattle.rv_exec.specs.Leaves.{LeavesPages, Missed, MissedBefore, MissedData}
use Rattle.rv_exec.proofs.LeavesLaws.{missed_load}
use Rattle.rv_exec.specs.Line as line
use Rattle.rv_exec.proofs.LineLaws.{all_none}
use Rattle.rv_exec.specs.Registers.{Registers}
use Rattle.rv_exec.specs.Uses.{page_of_access, pages_stored}
use Rattle.env_calls.specs.declared.served.ServeStop.{ServeStop}
use Rattle.env_calls.specs.declared.served.ServeStop.TheVariants.{Absent, NoMemory}
use Rattle.env_calls.specs.declared.stepping.Stepped.{Stepped}
use Rattle.env_calls.specs.declared.stepping.Stepped.TheVariants.{Ran, Trapped}
use Rattle.env_calls.proofs.CallLaws.{read_used, read_uses_none, read_lacks}
use Rattle.env_calls.specs.Calls.{call_stores}
use Rattle.env_calls.specs.Environment.{Environment}
use Rattle.env_calls.specs.Finishing.{CameTo, IsRest}
use Rattle.env_calls.specs.Leaving.{LeavesCall, LeavesRest, LeavesStep}
use Rattle.env_calls.specs.Step.{step_stores, served_stores}
use Rattle.env_calls.proofs.StepLaws.{all_append, contains_before, contains_after, call_stores_after}

-- ---- a read

pub read_takes : (takes : ℕ → Type 0) (memory : Memory) (address : ℕ) (bytes : List ℕ) (changed : Memory)
    → copied_in memory address bytes ≡ Ok changed → takes (page_number address) → All takes (page_of_access address (usable memory.pages Store address))
read_takes takes memory address bytes changed h taken = (read_used takes takes memory address bytes changed h taken taken).0

pub read_takes_none : (takes : ℕ → Type 0) (memory : Memory) (address : ℕ) (bytes : List ℕ) (fault : MemoryFault)
    → copied_in memory address bytes ≡ Err fault → All takes (page_of_access address (usable memory.pages Store address))
read_takes_none takes memory address bytes fault h = (read_uses_none takes takes memory address bytes fault h).0

pub read_missed : (missed : Access → ℕ → Type 0) (memory : Memory) (address page : ℕ) (bytes : List ℕ)
    → page ≡ page_number address → IsOk (copied_in memory address bytes) → missed Store page → MissedData missed (page_of_access address (usable memory.pages Store address)) page
read_missed missed memory address page bytes e allowed was = inr (read_lacks memory address page bytes e allowed, was)

pub ruleset storing_none = (all_none, missed_load)

-- ---- an instruction and what follows it

pub stores_next : (hart : ℕ) (regs : Registers) (memory : Memory) (regs' : Registers) (memory' : Memory)
    → line.line hart regs memory ≡ line.Next regs' memory' → step_stores hart regs memory ≡ pages_stored regs memory
unfolding step_stores
stores_next hart regs memory regs' memory' e = ap (λ l. pages_stored regs memory ++ served_stores regs memory l) e ∙ append-nil (pages_stored regs memory)

stores_traps : (hart : ℕ) (regs : Registers) (memory : Memory) (cause : Cause) (value : ℕ)
    → line.line hart regs memory ≡ line.Traps cause value → step_stores hart regs memory ≡ pages_stored regs memory
unfolding step_stores
stores_traps hart regs memory cause value e = ap (λ l. pages_stored regs memory ++ served_stores regs memory l) e ∙ append-nil (pages_stored regs memory)

missed_among : (missed : Access → ℕ → Type 0) (front back : List ℕ) (page : ℕ) → MissedData missed front page → MissedData missed (front ++ back) page
missed_among missed front back page (inl load) = inl load
missed_among missed front back page (inr store) = inr (contains_before page front back store.0, store.1)

-- the page that an instruction lacked is one of its step
missed_in_step : (marks marks' : ℕ → Type 0) (misses : List ℕ → Access → ℕ → Type 0) (code hart : ℕ) (regs : Registers) (memory : Memory) (page : ℕ)
    → ((page : ℕ) → marks page → marks' page) → Missed marks misses code (pages_stored regs memory) page → Missed marks' misses code (step_stores hart regs memory) page
unfolding step_stores
missed_in_step marks marks' misses code hart regs memory page marked (inl fetch) = inl fetch
missed_in_step marks marks' misses code hart regs memory page marked (inr rest) =
    inr (marked _ rest.0, missed_among (misses (code ∷ [])) (pages_stored regs memory) (served_stores regs memory (line.line hart regs memory)) page rest.1)

-- and so is the one that its call lacked
missed_by_call : (before between : List ℕ → Access → ℕ → Type 0) (code : ℕ) (front back : List ℕ) (page : ℕ)
    → MissedBefore before between code → MissedData (between []) back page → MissedData (before (code ∷ [])) (front ++ back) page
missed_by_call before between code front back page was (inl load) = inl (was [] Load page load)
missed_by_call before between code front back page was (inr store) = inr (contains_after page front back store.0, was [] Store page store.1)

module _ (has marks lacks has' others lacks' marks' : ℕ → Type 0) (within within' within'' : (ℕ → Bool) → (ℕ → Bool) → Type 0) (takes takes' : ℕ → Type 0) (before between : List ℕ → Access → ℕ → Type 0)
    (hart : ℕ) (regs : Registers) (env : Environment) (memory : Memory) (regs' : Registers) (memory' : Memory)
    (result : Result Stepped ServeStop) (last : Registers) (env' : Environment) (left : Memory)
    (taken : (page : ℕ) → takes page → takes' page) (marked : (page : ℕ) → marks page → marks' page) where
  still_takes : (pages : List ℕ) → All takes pages → All takes' pages
  still_takes pages all = λ k d h. taken _ (all k d h)

  -- with no call
  with_none : (stepped : Stepped) → result ≡ Ok stepped → step_stores hart regs memory ≡ pages_stored regs memory → All takes (pages_stored regs memory)
      → LeavesStep takes' marks' before (page_number regs.pc) (step_stores hart regs memory) result
  with_none stepped is same all =
      subst (LeavesStep takes' marks' before (page_number regs.pc) (step_stores hart regs memory)) (sym is) (subst (All takes') (sym same) (still_takes (pages_stored regs memory) all))

  -- with a call
  by_call : (answer : Result Stepped ServeStop) → line.line hart regs memory ≡ line.Call → regs' ≡ regs → memory' ≡ memory
      → All takes (pages_stored regs memory) × (marks (page_number regs.pc) × MissedBefore before between (page_number regs.pc))
      → LeavesCall takes' between (call_stores regs' memory') answer → LeavesStep takes' marks' before (page_number regs.pc) (step_stores hart regs memory) answer
  by_call (Ok stepped) is same_regs same_memory first rest =
      subst (All takes') (sym (call_stores_after hart regs regs' memory memory' is same_regs same_memory))
      (all_append takes' (pages_stored regs memory) (call_stores regs' memory') (still_takes (pages_stored regs memory) first.0) rest)
  by_call (Err NoMemory) is same_regs same_memory first rest =
      subst (All takes') (sym (call_stores_after hart regs regs' memory memory' is same_regs same_memory))
      (all_append takes' (pages_stored regs memory) (call_stores regs' memory') (still_takes (pages_stored regs memory) first.0) rest)
  by_call (Err (Absent page)) is same_regs same_memory first rest =
      inr (
        marked _ first.1.0,
        subst (λ stores. MissedData (before (page_number regs.pc ∷ [])) stores page) (sym (call_stores_after hart regs regs' memory memory' is same_regs same_memory))
            (missed_by_call before between (page_number regs.pc) (pages_stored regs memory) (call_stores regs' memory') page first.1.1 rest),
      )

  pub leaves_then : (outcome : Outcome) → CameTo has marks lacks within within' hart outcome regs memory regs' memory'
      → IsRest has' others lacks' within' within'' hart outcome regs' env memory' result last env' left
      → LeavesPages takes marks before between (page_number regs.pc) (pages_stored regs memory) outcome
      → LeavesRest takes' between outcome regs' memory' result
      → LeavesStep takes' marks' before (page_number regs.pc) (step_stores hart regs memory) result
  leaves_then outcome.Done came rest first behind =
      with_none Ran rest.pages (stores_next hart regs memory regs' memory' came.line_is) first
  leaves_then outcome.Ecall came rest first behind = by_call result came.line_is came.regs_stay came.memory_stays first behind
  leaves_then (outcome.Trap cause value) came rest first behind =
      with_none (Trapped cause value) rest.pages (stores_traps hart regs memory cause value came.line_is) first
  leaves_then (outcome.Absent page) came rest first behind =
      subst (LeavesStep takes' marks' before (page_number regs.pc) (step_stores hart regs memory)) (sym rest.pages)
      (missed_in_step marks marks' before (page_number regs.pc) hart regs memory page marked first)
