-- An instruction and the rest of its step are the step.
use Rattle.std.specs.Prelude.{◌≡◌, ℕ, Bool, true, List, [], Result, Ok, Err, IfOk}
use Rattle.std.proofs.Common.{ap, sym, subst, ◌∙◌}
use Rattle.page_memory.specs.Memory.{Memory}
use Rattle.rv_exec.specs.declared.outcome.Outcome.{Outcome}
use Rattle.rv_exec.specs.declared.outcome.Outcome.TheVariants as outcome
use Rattle.rv_exec.specs.Bounds.{Bounds}
use Rattle.rv_exec.specs.Line as line
use Rattle.rv_exec.proofs.LineLaws.{all_none}
use Rattle.rv_exec.specs.Outcomes.{Used}
use Rattle.rv_exec.specs.Registers.{Registers}
use Rattle.rv_exec.specs.Uses.{pages_used, pages_stored}
use Rattle.env_calls.specs.declared.served.ServeStop.{ServeStop}
use Rattle.env_calls.specs.declared.served.ServeStop.TheVariants.{Absent, NoMemory}
use Rattle.env_calls.specs.declared.stepping.Stepped.{Stepped}
use Rattle.env_calls.specs.Environment.{Environment}
use Rattle.env_calls.specs.Effect.{Effect, Runs, Traps}
use Rattle.env_calls.specs.Calls.{call, call_pages}
use Rattle.env_calls.specs.Finishing.{CameTo, IsRest, IsStep}
use Rattle.env_calls.specs.Serving.{TakesMemory, UsesPages}
use Rattle.env_calls.specs.Step.{effect, step_pages}
use Rattle.env_calls.proofs.StepLaws.{effect_next, effect_call, effect_traps, used_next, used_traps, used_call, stopped_call, step_contains, bound_first, bound_call}
use Rattle.env_calls.specs.Stepping.{IsEffect, Stays}

-- pages that were marked stay so
still_used : (has marks marks' : ℕ → Type 0) (pages : List ℕ) → ((page : ℕ) → marks page → marks' page) → Used has marks pages → Used has marks' pages
still_used has marks marks' pages marked used = (used.0, λ k d h. marked _ (used.1 k d h))

-- nothing more was used
none_more : (before between after : (ℕ → Bool) → (ℕ → Bool) → Type 0) (used stored : List ℕ) → Bounds before between used stored → Bounds between after [] [] → Bounds before after used stored
none_more before between after used stored first rest = record {
  bound = λ u s passes stores was. rest.bound u s (all_none (λ p. u p ≡ true)) (all_none (λ p. s p ≡ true)) (first.bound u s passes stores was);
}

-- what the whole does, where the instruction was not kept from being done
same_effect : (hart : ℕ) (regs regs' : Registers) (env : Environment) (memory memory' : Memory) → line.line hart regs memory ≡ line.Call → regs' ≡ regs → memory' ≡ memory
    → effect hart regs env memory ≡ call hart regs' env memory'
same_effect hart regs regs' env memory memory' is same_regs same_memory =
    effect_call hart regs env memory is ∙ ap (λ r. call hart r env memory) (sym same_regs) ∙ ap (λ m. call hart regs' env m) (sym same_memory)

module _ (has marks lacks has' marks' lacks' : ℕ → Type 0) (before between after : (ℕ → Bool) → (ℕ → Bool) → Type 0) (hart : ℕ) (regs : Registers) (env : Environment) (memory : Memory) (regs' : Registers) (memory' : Memory)
    (result : Result Stepped ServeStop) (last : Registers) (env' : Environment) (left : Memory)
    (had : (page : ℕ) → has' page → has page) (lacked : (page : ℕ) → lacks' page → lacks page) (marked : (page : ℕ) → marks page → marks' page) where
  -- the pages of a call
  call_used : (answer : Result Stepped ServeStop) → line.line hart regs memory ≡ line.Call → regs' ≡ regs → memory' ≡ memory → Used has marks (pages_used regs memory)
      → UsesPages has' marks' lacks' (call_pages regs' memory') answer → UsesPages has marks' lacks (step_pages hart regs memory) answer
  call_used (Ok stepped) is same_regs same_memory first rest = used_call has marks has' marks' hart regs regs' memory memory' is same_regs same_memory had marked first rest
  call_used (Err stop) is same_regs same_memory first rest =
      stopped_call Stepped Stepped has marks lacks has' marks' lacks' hart regs regs' memory memory' stop is same_regs same_memory had lacked marked first rest

  -- a step that ended so, by what it does
  whole : (e : Effect) → effect hart regs env memory ≡ e → IfOk result (λ stepped. IsEffect e stepped last env' left) → IfOk result (λ stepped. IsEffect (effect hart regs env memory) stepped last env' left)
  whole e same is = subst (λ (x : Effect). IfOk result (λ stepped. IsEffect x stepped last env' left)) (sym same) is

  pub step_then : (outcome : Outcome) → CameTo has marks lacks before between hart outcome regs memory regs' memory'
      → IsRest has' marks' lacks' between after hart outcome regs' env memory' result last env' left
      → IsStep has marks' lacks before after hart regs env memory result last env' left
  step_then outcome.Done came rest =
      let same = effect_next hart regs env memory regs' memory' came.line_is in
      record {
        stepped = whole (Runs regs' env memory') same rest.stepped;
        regs_stay = subst (λ r. Stays r (last ≡ regs)) (sym rest.pages) tt;
        env_stays = rest.env_stays;
        memory_stays = subst (λ r. Stays r (left ≡ memory)) (sym rest.pages) tt;
        pages = subst (UsesPages has marks' lacks (step_pages hart regs memory)) (sym rest.pages)
            (still_used has marks marks' (step_pages hart regs memory) marked (used_next has marks hart regs memory regs' memory' came.line_is came.pages));
        bound = bound_first before after hart regs memory (none_more before between after (pages_used regs memory) (pages_stored regs memory) came.bound rest.bound);
        no_memory = λ none. subst (TakesMemory env) (sym same) (rest.no_memory none);
      }
  step_then outcome.Ecall came rest =
      let same = same_effect hart regs regs' env memory memory' came.line_is came.regs_stay came.memory_stays in
      record {
        stepped = whole (call hart regs' env memory') same rest.stepped;
        regs_stay = subst (λ r. Stays result (last ≡ r)) came.regs_stay rest.regs_stay;
        env_stays = rest.env_stays;
        memory_stays = subst (λ m. Stays result (left ≡ m)) came.memory_stays rest.memory_stays;
        pages = call_used result came.line_is came.regs_stay came.memory_stays came.pages rest.pages;
        bound = bound_call before between after hart regs regs' memory memory' came.line_is came.regs_stay came.memory_stays came.bound rest.bound;
        no_memory = λ none. subst (TakesMemory env) (sym same) (rest.no_memory none);
      }
  step_then (outcome.Trap cause value) came rest =
      let same = effect_traps hart regs env memory cause value came.line_is in
      record {
        stepped = whole (Traps cause value) same rest.stepped;
        regs_stay = subst (λ r. Stays result (last ≡ r)) came.regs_stay rest.regs_stay;
        env_stays = rest.env_stays;
        memory_stays = subst (λ m. Stays result (left ≡ m)) came.memory_stays rest.memory_stays;
        pages = subst (UsesPages has marks' lacks (step_pages hart regs memory)) (sym rest.pages)
            (still_used has marks marks' (step_pages hart regs memory) marked (used_traps has marks hart regs memory cause value came.line_is came.pages));
        bound = bound_first before after hart regs memory (none_more before between after (pages_used regs memory) (pages_stored regs memory) came.bound rest.bound);
        no_memory = λ none. subst (TakesMemory env) (sym same) (rest.no_memory none);
      }
  step_then (outcome.Absent page) came rest = record {
    stepped = subst (λ r. IfOk r (λ stepped. IsEffect (effect hart regs env memory) stepped last env' left)) (sym rest.pages) tt;
    regs_stay = subst (λ r. Stays result (last ≡ r)) came.regs_stay rest.regs_stay;
    env_stays = rest.env_stays;
    memory_stays = subst (λ m. Stays result (left ≡ m)) came.memory_stays rest.memory_stays;
    pages = subst (UsesPages has marks' lacks (step_pages hart regs memory)) (sym rest.pages) (step_contains hart regs memory page came.pages.0, came.pages.1);
    bound = bound_first before after hart regs memory (none_more before between after (pages_used regs memory) (pages_stored regs memory) came.bound rest.bound);
    no_memory = λ none. absurd (absent_is_no_want page (sym rest.pages ∙ none));
  }
    where
      absent_is_no_want : (page : ℕ) → ◌≡◌ {A = Result Stepped ServeStop} (Err (Absent page)) (Err NoMemory) → ⊥
      absent_is_no_want page same = cc
