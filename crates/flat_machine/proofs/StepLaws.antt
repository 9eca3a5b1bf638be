-- What a step is, by its effect, and what it keeps.
use Rattle.std.proofs.Common.{◌≡◌, ◌&&◌, ◌+◌, ◌<◌, ◌≤◌, ℕ, zero, suc, Bool, true, false, List, [], ◌∷◌, ◌++◌, length, slice_set, slice_index_or, Option, Some, None, IsSome, is_none, is_some, option_map, unwrap_or, ap, ◌∙◌, refl, sym, subst, cond, arith, length-set, true≢false}
use Rattle.std.proofs.lemmas.Option.{slice_get-get_or, none-some}
use Rattle.std.proofs.lemmas.List.{length_push}
use Rattle.rv_exec.specs.Registers.{Registers}
use Rattle.env_calls.specs.Environment.{any_live}
use Rattle.env_calls.specs.Effect.{Effect, Runs, Yields, Spawns, Finishes, Exits, Traps}
use Rattle.env_calls.specs.Step.{effect}
use Rattle.env_calls.proofs.LiveLaws.{MarksAfter, marks_after, more_is_some}
use Rattle.flat_machine.specs.Process.{Process, IsWhole, hart_registers, is_live, after, stepped, may_step, flat_step}

-- ---- a hart that may step

pub both : (a b : Bool) → (a && b) ≡ true → (a ≡ true) × (b ≡ true)
both true b e = (refl, e)
both false b e = absurd (true≢false (sym e))

no_ending : {A : Type 0} (o : Option A) → is_none o ≡ true → o ≡ None
no_ending None e = refl
no_ending (Some x) e = absurd (true≢false (sym e))

pub marked_within : (live : List Bool) (hart : ℕ) → slice_index_or live hart false ≡ true → hart < length live
marked_within [] hart e = absurd (true≢false (sym e))
marked_within (mark ∷ live) zero e = omega arith
marked_within (mark ∷ live) (suc hart) e = let rest = marked_within live hart e in omega arith

-- its process has not ended
pub has_no_ending : (hart : ℕ) (process : Process) → may_step hart process ≡ true → process.ending ≡ None
has_no_ending hart process may_step_when_live = no_ending process.ending (both (is_none process.ending) (is_live hart process) may_step_when_live).0

-- it is live
pub is_live_in : (hart : ℕ) (process : Process) → may_step hart process ≡ true → is_live hart process ≡ true
is_live_in hart process may = (both (is_none process.ending) (is_live hart process) may).1

-- it was started
pub started : (hart : ℕ) (process : Process) → IsWhole process → may_step hart process ≡ true → hart < length process.harts
started hart process whole may_step_when_live =
    let within = marked_within process.environment.live hart (both (is_none process.ending) (is_live hart process) may_step_when_live).1 in
    let marked = whole.marked in omega arith

-- a hart may step where the process has not ended and the hart is live
pub may_step_when_live : (hart : ℕ) (process : Process) → process.ending ≡ None → is_live hart process ≡ true → may_step hart process ≡ true
may_step_when_live hart process goes live = ap (λ o. is_none o && is_live hart process) goes ∙ live

-- it may step again where the process goes on and the same harts are live
pub goes_on_alike : (hart : ℕ) (old new : Process) → may_step hart old ≡ true → new.ending ≡ None → new.environment.live ≡ old.environment.live → may_step hart new ≡ true
goes_on_alike hart old new now goes same =
    may_step_when_live hart new goes (ap (λ live. slice_index_or live hart false) same ∙ (both (is_none old.ending) (is_live hart old) now).1)

-- one hart alone
pub whole_alone : (process : Process) → length process.harts ≡ 1 → process.environment.live ≡ true ∷ [] → IsWhole process
unfolding any_live
whole_alone process one live =
    let marks = ap length live in
    record { marked = omega arith; few = omega arith; some = ap any_live live }

-- what is no `Some` is `None`
pub not_ended : {A : Type 0} (o : Option A) → is_some o ≡ false → o ≡ None
not_ended None e = refl
not_ended (Some x) e = absurd (true≢false e)

-- ---- its step

-- it takes the step of its registers' effect
pub step_is : (hart : ℕ) (process : Process) (registers : Registers) (e : Effect) → may_step hart process ≡ true → hart_registers hart process ≡ Some registers
    → effect hart registers process.environment process.memory ≡ e → flat_step hart process ≡ Some (after hart process registers e)
unfolding flat_step
step_is hart process registers e may_step_when_live are is =
    ap (λ b. cond b (option_map (stepped hart process) (hart_registers hart process)) None) may_step_when_live
    ∙ ap (option_map (stepped hart process)) are
    ∙ ap (λ x. Some (after hart process registers x)) is

kept : (process left : Process) → IsWhole process → length left.harts ≡ length process.harts → process.environment.live ≡ left.environment.live → IsWhole left
kept process left whole harts live = record {
  marked = harts ∙ whole.marked ∙ ap length live;
  few = subst (λ l. length l ≤ 8) live whole.few;
  some = ap any_live (sym live) ∙ whole.some;
}

-- the process after it is whole
pub whole_after : (hart : ℕ) (process : Process) (registers : Registers) (e : Effect) → IsWhole process → MarksAfter hart process.environment.live e → IsWhole (after hart process registers e)
whole_after hart process registers (Runs regs env memory) whole marks = kept process (after hart process registers (Runs regs env memory)) whole (length-set process.harts hart regs) (sym marks)
whole_after hart process registers (Yields regs env memory) whole marks = kept process (after hart process registers (Yields regs env memory)) whole (length-set process.harts hart regs) (sym marks)
whole_after hart process registers (Spawns first regs env memory) whole marks =
    let marked = whole.marked in
    let harts : length (slice_set process.harts hart regs ++ first ∷ []) ≡ length process.harts + 1 = length_push (slice_set process.harts hart regs) first ∙ ap (λ n. n + 1) (length-set process.harts hart regs) in
    let live : length env.live ≡ length process.environment.live + 1 = ap length marks.0 ∙ length_push process.environment.live true in
    let few = marks.1 in
    record { marked = omega arith; few = omega arith; some = ap any_live marks.0 ∙ more_is_some process.environment.live }
whole_after hart process registers (Finishes regs env memory) whole marks =
    let marked = whole.marked in
    let few = whole.few in
    let harts : length (slice_set process.harts hart regs) ≡ length process.harts = length-set process.harts hart regs in
    let live : length env.live ≡ length process.environment.live = ap length marks.0 ∙ length-set process.environment.live hart false in
    record { marked = omega arith; few = omega arith; some = ap any_live marks.0 ∙ marks.1 }
whole_after hart process registers (Exits status regs env memory) whole marks = kept process (after hart process registers (Exits status regs env memory)) whole (length-set process.harts hart regs) (sym marks)
whole_after hart process registers (Traps cause value) whole marks = record { marked = whole.marked; few = whole.few; some = whole.some }

-- a step of a hart that may step: it is there, and what it leaves is whole
pub record Taken (hart : ℕ) (now left : Process) : Type 0 where
  pub step : flat_step hart now ≡ Some left
  pub whole : IsWhole left

pub taken : (hart : ℕ) (process now : Process) (registers : Registers) (e : Effect) → IsWhole process → process ≡ now → may_step hart now ≡ true
    → registers ≡ slice_index_or process.harts hart registers → effect hart registers process.environment process.memory ≡ e → Taken hart now (after hart process registers e)
taken hart process now registers e whole same may_step_when_live are is =
    let here : may_step hart process ≡ true = ap (may_step hart) same ∙ may_step_when_live in
    let there : hart_registers hart process ≡ Some registers = slice_get-get_or process.harts hart registers (started hart process whole here) ∙ ap Some (sym are) in
    record {
      step = ap (flat_step hart) (sym same) ∙ step_is hart process registers e here there is;
      whole = whole_after hart process registers e whole (subst (MarksAfter hart process.environment.live) is (marks_after hart registers process.environment process.memory));
    }

-- ---- a step that ends the process

lives_after : (hart : ℕ) (process : Process) (registers : Registers) (e : Effect) → process.ending ≡ None → is_live hart process ≡ true → MarksAfter hart process.environment.live e
    → IsSome (after hart process registers e).ending → is_live hart (after hart process registers e) ≡ true
lives_after hart process registers (Runs regs env memory) goes lives marks ended = absurd (true≢false (sym ended ∙ ap is_some goes))
lives_after hart process registers (Yields regs env memory) goes lives marks ended = absurd (true≢false (sym ended ∙ ap is_some goes))
lives_after hart process registers (Spawns first regs env memory) goes lives marks ended = absurd (true≢false (sym ended ∙ ap is_some goes))
lives_after hart process registers (Finishes regs env memory) goes lives marks ended = absurd (true≢false (sym ended ∙ ap is_some goes))
lives_after hart process registers (Exits status regs env memory) goes lives marks ended = ap (λ live. slice_index_or live hart false) marks ∙ lives
lives_after hart process registers (Traps cause value) goes lives marks ended = lives

ends_alive : (hart : ℕ) (process left : Process) (may : Bool) (found : Option Registers) → may_step hart process ≡ may → cond may (option_map (stepped hart process) found) None ≡ Some left
    → IsSome left.ending → is_live hart left ≡ true
ends_alive hart process left false found can e ended = absurd (none-some left e)
ends_alive hart process left true None can e ended = absurd (none-some left e)
ends_alive hart process left true (Some registers) can e ended =
    let is : after hart process registers (effect hart registers process.environment process.memory) ≡ left = ap (λ o. unwrap_or o (stepped hart process registers)) e in
    subst (λ (p : Process). is_live hart p ≡ true) is
    (lives_after hart process registers (effect hart registers process.environment process.memory) (has_no_ending hart process can) (is_live_in hart process can)
    (marks_after hart registers process.environment process.memory) (subst (λ (p : Process). IsSome p.ending) (sym is) ended))

-- the hart that took it is still live
pub ended_lives : (hart : ℕ) (process left : Process) → flat_step hart process ≡ Some left → IsSome left.ending → is_live hart left ≡ true
unfolding flat_step
ended_lives hart process left e ended = ends_alive hart process left (may_step hart process) (hart_registers hart process) refl e ended
