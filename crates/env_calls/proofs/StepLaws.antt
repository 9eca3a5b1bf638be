-- What a step does, and the pages that it uses, by its line.
use Rattle.std.specs.Prelude.{◌≡◌, ℕ, Bool, true, suc, ◌+◌, List, [], ◌∷◌, ◌++◌, length, Err, All, Contains}
use Rattle.std.proofs.Common.{arith, ap, sym, subst, ◌∙◌, append-nil, length-append}
use Rattle.std.proofs.lemmas.List.{get_or_append_left, get_or-append-add}
use Rattle.page_memory.specs.Memory.{Memory}
use Rattle.rv_exec.specs.declared.cause.Cause.{Cause}
use Rattle.rv_exec.specs.Registers.{Registers}
use Rattle.rv_exec.specs.Line as line
use Rattle.rv_exec.proofs.LineLaws.{all_front, all_none}
use Rattle.rv_exec.specs.Bounds.{Pass, Bounds}
use Rattle.rv_exec.specs.Outcomes.{Used}
use Rattle.rv_exec.specs.Uses.{pages_used, pages_stored}
use Rattle.env_calls.specs.declared.served.ServeStop.{ServeStop}
use Rattle.env_calls.specs.declared.served.ServeStop.TheVariants.{Absent, NoMemory}
use Rattle.env_calls.specs.Environment.{Environment}
use Rattle.env_calls.specs.Effect.{Runs, Traps}
use Rattle.env_calls.specs.Calls.{call, call_pages, call_stores}
use Rattle.env_calls.specs.Step.{effect, effect_of, step_pages, served_pages, step_stores, served_stores}
use Rattle.env_calls.specs.Serving.{UsesPages}

pub effect_next : (hart : ℕ) (regs : Registers) (env : Environment) (memory : Memory) (regs' : Registers) (memory' : Memory)
    → line.line hart regs memory ≡ line.Next regs' memory' → effect hart regs env memory ≡ Runs regs' env memory'
unfolding effect
effect_next hart regs env memory regs' memory' e = ap (effect_of hart regs env memory) e

pub effect_call : (hart : ℕ) (regs : Registers) (env : Environment) (memory : Memory)
    → line.line hart regs memory ≡ line.Call → effect hart regs env memory ≡ call hart regs env memory
unfolding effect
effect_call hart regs env memory e = ap (effect_of hart regs env memory) e

pub effect_traps : (hart : ℕ) (regs : Registers) (env : Environment) (memory : Memory) (cause : Cause) (value : ℕ)
    → line.line hart regs memory ≡ line.Traps cause value → effect hart regs env memory ≡ Traps cause value
unfolding effect
effect_traps hart regs env memory cause value e = ap (effect_of hart regs env memory) e

-- ---- the pages

pages_call : (hart : ℕ) (regs : Registers) (memory : Memory) → line.line hart regs memory ≡ line.Call → step_pages hart regs memory ≡ pages_used regs memory ++ call_pages regs memory
unfolding step_pages
pages_call hart regs memory e = ap (λ l. pages_used regs memory ++ served_pages regs memory l) e

pages_next : (hart : ℕ) (regs : Registers) (memory : Memory) (regs' : Registers) (memory' : Memory)
    → line.line hart regs memory ≡ line.Next regs' memory' → step_pages hart regs memory ≡ pages_used regs memory
unfolding step_pages
pages_next hart regs memory regs' memory' e =
    ap (λ l. pages_used regs memory ++ served_pages regs memory l) e ∙ append-nil (pages_used regs memory)

pages_traps : (hart : ℕ) (regs : Registers) (memory : Memory) (cause : Cause) (value : ℕ)
    → line.line hart regs memory ≡ line.Traps cause value → step_pages hart regs memory ≡ pages_used regs memory
unfolding step_pages
pages_traps hart regs memory cause value e =
    ap (λ l. pages_used regs memory ++ served_pages regs memory l) e ∙ append-nil (pages_used regs memory)

pub used_next : (has marks : ℕ → Type 0) (hart : ℕ) (regs : Registers) (memory : Memory) (regs' : Registers) (memory' : Memory)
    → line.line hart regs memory ≡ line.Next regs' memory' → Used has marks (pages_used regs memory) → Used has marks (step_pages hart regs memory)
used_next has marks hart regs memory regs' memory' e used = subst (Used has marks) (sym (pages_next hart regs memory regs' memory' e)) used

pub used_traps : (has marks : ℕ → Type 0) (hart : ℕ) (regs : Registers) (memory : Memory) (cause : Cause) (value : ℕ)
    → line.line hart regs memory ≡ line.Traps cause value → Used has marks (pages_used regs memory) → Used has marks (step_pages hart regs memory)
used_traps has marks hart regs memory cause value e used = subst (Used has marks) (sym (pages_traps hart regs memory cause value e)) used

pub contains_before : (page : ℕ) (pages others : List ℕ) → Contains pages page → Contains (pages ++ others) page
contains_before page pages others h = (h.0, omega (arith, h.1, length-append pages others), get_or_append_left pages others page h.0 h.1 ∙ h.2)

pub contains_after : (page : ℕ) (others pages : List ℕ) → Contains pages page → Contains (others ++ pages) page
contains_after page others pages h = (length others + h.0, omega (arith, h.1, length-append others pages), get_or-append-add others pages h.0 page ∙ h.2)

-- the step needs the pages of its instruction, whatever becomes of it
pub step_contains : (hart : ℕ) (regs : Registers) (memory : Memory) (page : ℕ) → Contains (pages_used regs memory) page → Contains (step_pages hart regs memory) page
unfolding step_pages
step_contains hart regs memory page h = contains_before page (pages_used regs memory) (served_pages regs memory (line.line hart regs memory)) h

pub all_append : (P : ℕ → Type 0) (xs ys : List ℕ) → All P xs → All P ys → All P (xs ++ ys)
all_append P [] ys a b = b
all_append P (x ∷ xs) ys a b = all_front P x (xs ++ ys) (a 0 x (omega arith)) (all_append P xs ys (λ k d h. a (suc k) d (omega arith)) b)

used_both : (has marks has' marks' : ℕ → Type 0) (front back : List ℕ) → ((page : ℕ) → has' page → has page) → ((page : ℕ) → marks page → marks' page)
    → Used has marks front → Used has' marks' back → Used has marks' (front ++ back)
used_both has marks has' marks' front back had marked first rest =
    (all_append has front back first.0 (λ k d h. had _ (rest.0 k d h)), all_append marks' front back (λ k d h. marked _ (first.1 k d h)) rest.1)

call_pages_after : (hart : ℕ) (regs regs' : Registers) (memory memory' : Memory) → line.line hart regs memory ≡ line.Call → regs' ≡ regs → memory' ≡ memory
    → step_pages hart regs memory ≡ pages_used regs memory ++ call_pages regs' memory'
call_pages_after hart regs regs' memory memory' e same_regs same_memory =
    let used = pages_used regs memory in
    pages_call hart regs memory e ∙ ap (λ r. used ++ call_pages r memory) (sym same_regs) ∙ ap (λ m. used ++ call_pages regs' m) (sym same_memory)

-- the pages of a step that makes a call, where the bus that the instruction left was asked for the call's
pub used_call : (has marks has' marks' : ℕ → Type 0) (hart : ℕ) (regs regs' : Registers) (memory memory' : Memory)
    → line.line hart regs memory ≡ line.Call → regs' ≡ regs → memory' ≡ memory → ((page : ℕ) → has' page → has page) → ((page : ℕ) → marks page → marks' page)
    → Used has marks (pages_used regs memory) → Used has' marks' (call_pages regs' memory') → Used has marks' (step_pages hart regs memory)
used_call has marks has' marks' hart regs regs' memory memory' e same_regs same_memory had marked first rest =
    subst (Used has marks') (sym (call_pages_after hart regs regs' memory memory' e same_regs same_memory))
    (used_both has marks has' marks' (pages_used regs memory) (call_pages regs' memory') had marked first rest)

-- the same where the call stopped
pub stopped_call : (A B : Type 0) (has marks lacks has' marks' lacks' : ℕ → Type 0) (hart : ℕ) (regs regs' : Registers) (memory memory' : Memory) (stop : ServeStop)
    → line.line hart regs memory ≡ line.Call → regs' ≡ regs → memory' ≡ memory
    → ((page : ℕ) → has' page → has page) → ((page : ℕ) → lacks' page → lacks page) → ((page : ℕ) → marks page → marks' page)
    → Used has marks (pages_used regs memory) → UsesPages {A = A} has' marks' lacks' (call_pages regs' memory') (Err stop)
    → UsesPages {A = B} has marks' lacks (step_pages hart regs memory) (Err stop)
stopped_call A B has marks lacks has' marks' lacks' hart regs regs' memory memory' stop e same_regs same_memory had lacked marked first rest =
    elim stop as (λ s. UsesPages {A = A} has' marks' lacks' (call_pages regs' memory') (Err s) → UsesPages {A = B} has marks' lacks (step_pages hart regs memory) (Err s)) [
      | Absent page ↦ λ more. (
        subst (λ pages. Contains pages page) (sym (call_pages_after hart regs regs' memory memory' e same_regs same_memory))
            (contains_after page (pages_used regs memory) (call_pages regs' memory') more.0),
        lacked page more.1,
      )
      | NoMemory ↦ λ more. used_call has marks has' marks' hart regs regs' memory memory' e same_regs same_memory had marked first more
    ] rest

-- ---- what the step may have marked

front_passes : (test : ℕ → Bool) (front back : List ℕ) → Pass test (front ++ back) → Pass test front
front_passes test [] back passes = all_none (λ p. test p ≡ true)
front_passes test (page ∷ front) back passes =
    all_front (λ p. test p ≡ true) page front (passes 0 page (omega arith)) (front_passes test front back (λ k d h. passes (suc k) d (omega arith)))

back_passes : (test : ℕ → Bool) (front back : List ℕ) → Pass test (front ++ back) → Pass test back
back_passes test [] back passes = passes
back_passes test (page ∷ front) back passes = back_passes test front back (λ k d h. passes (suc k) d (omega arith))

pub bound_first : (before after : (ℕ → Bool) → (ℕ → Bool) → Type 0) (hart : ℕ) (regs : Registers) (memory : Memory)
    → Bounds before after (pages_used regs memory) (pages_stored regs memory) → Bounds before after (step_pages hart regs memory) (step_stores hart regs memory)
unfolding step_pages step_stores
bound_first before after hart regs memory first =
    let served : List ℕ = served_pages regs memory (line.line hart regs memory) in
    let stores : List ℕ = served_stores regs memory (line.line hart regs memory) in
    record { bound = λ u s passes stored was. first.bound u s (front_passes u (pages_used regs memory) served passes) (front_passes s (pages_stored regs memory) stores stored) was }

pub call_stores_after : (hart : ℕ) (regs regs' : Registers) (memory memory' : Memory) → line.line hart regs memory ≡ line.Call → regs' ≡ regs → memory' ≡ memory
    → step_stores hart regs memory ≡ pages_stored regs memory ++ call_stores regs' memory'
unfolding step_stores
call_stores_after hart regs regs' memory memory' e same_regs same_memory =
    let stored = pages_stored regs memory in
    ap (λ l. stored ++ served_stores regs memory l) e ∙ ap (λ r. stored ++ call_stores r memory) (sym same_regs) ∙ ap (λ m. stored ++ call_stores regs' m) (sym same_memory)

-- the same where a call followed
pub bound_call : (before between after : (ℕ → Bool) → (ℕ → Bool) → Type 0) (hart : ℕ) (regs regs' : Registers) (memory memory' : Memory)
    → line.line hart regs memory ≡ line.Call → regs' ≡ regs → memory' ≡ memory
    → Bounds before between (pages_used regs memory) (pages_stored regs memory) → Bounds between after (call_pages regs' memory') (call_stores regs' memory')
    → Bounds before after (step_pages hart regs memory) (step_stores hart regs memory)
bound_call before between after hart regs regs' memory memory' e same_regs same_memory first rest = record {
  bound = λ u s passes stored was.
      let used : Pass u (pages_used regs memory ++ call_pages regs' memory') = subst (Pass u) (call_pages_after hart regs regs' memory memory' e same_regs same_memory) passes in
      let stores : Pass s (pages_stored regs memory ++ call_stores regs' memory') = subst (Pass s) (call_stores_after hart regs regs' memory memory' e same_regs same_memory) stored in
      rest.bound u s (back_passes u (pages_used regs memory) (call_pages regs' memory') used) (back_passes s (pages_stored regs memory) (call_stores regs' memory') stores)
      (first.bound u s (front_passes u (pages_used regs memory) (call_pages regs' memory') used) (front_passes s (pages_stored regs memory) (call_stores regs' memory') stores) was);
}
