-- Whose turn it is, and runs by turns put together.
use Rattle.std.proofs.Common.{◌≡◌, ◌+◌, ℕ, true, Option, Some, None, IsSome, Result, Ok, Err, IfOk, unwrap_or, refl, ap, ◌∙◌, sym, true≢false}
use Rattle.env_calls.specs.Environment.{next_live}
use Rattle.env_calls.proofs.LiveLaws.{next_is_live, next_is_some}
use Rattle.flat_machine.specs.Process.{Process, IsWhole, is_live, flat_step}
use Rattle.flat_machine.specs.ByTurns.{turn_after, by_turns}
use Rattle.flat_machine.proofs.RunLaws.{by_turns_none, by_turns_append, by_turns_more}
use Rattle.flat_machine.specs.Refusals.{WantsMemory, WantsAt}

-- ---- whose turn it is

turn_lives : (hart : ℕ) (process : Process) (next : ℕ) → next_live hart process.environment.live ≡ Some next → is_live next process ≡ true
turn_lives hart process next e = next_is_live hart process.environment.live next e

no_turn : (o : Option ℕ) → IsSome o → o ≡ None → ⊥
no_turn None some e = true≢false (sym some)
no_turn (Some x) some e = cc

some_turn : (hart : ℕ) (process : Process) → IsWhole process → next_live hart process.environment.live ≡ None → ⊥
some_turn hart process whole e = no_turn (next_live hart process.environment.live) (next_is_some hart process.environment.live whole.some) e

pub turn_is_live : (hart : ℕ) (process : Process) → IsWhole process → is_live (turn_after hart process) process ≡ true
turn_is_live hart process whole = by (next_live hart process.environment.live) refl
  where
    by : (o : Option ℕ) → next_live hart process.environment.live ≡ o → is_live (unwrap_or o hart) process ≡ true
    by None e = absurd (some_turn hart process whole e)
    by (Some next) e = turn_lives hart process next e

-- ---- a hart that is alone

-- its turn comes again while the same harts are live
pub again : (hart : ℕ) (old new : Process) → turn_after hart old ≡ hart → new.environment.live ≡ old.environment.live → turn_after hart new ≡ hart
again hart old new alone same = ap (λ live. unwrap_or (next_live hart live) hart) same ∙ alone

-- ---- runs put together

-- one more step, after which it is a hart's turn
pub next_turn : (n hart turn then : ℕ) (before between after : Process) → by_turns n hart before ≡ Some (turn, between) → flat_step turn between ≡ Some after → turn_after turn after ≡ then
    → by_turns (n + 1) hart before ≡ Some (then, after)
next_turn n hart turn then before between after ran step is = by_turns_more n hart turn before between after ran step ∙ ap (λ t. Some (t, after)) is

-- so many more steps
pub more_turns : (n m hart turn then : ℕ) (before between after : Process) → by_turns n hart before ≡ Some (turn, between) → by_turns m turn between ≡ Some (then, after)
    → by_turns (n + m) hart before ≡ Some (then, after)
more_turns n m hart turn then before between after ran more = by_turns_append n m hart turn before between ran ∙ more

-- a run from whose turn it is at first
pub ran_from : {E : Type 0} (result : Result ℕ E) (turn first then : ℕ) (before after : Process) → turn ≡ first → IfOk result (λ steps. by_turns steps turn before ≡ Some (then, after))
    → IfOk result (λ steps. (last : ℕ) × (by_turns steps first before ≡ Some (last, after)))
ran_from (Ok steps) turn first then before after is ran = (then, ap (λ t. by_turns steps t before) (sym is) ∙ ran)
ran_from (Err stop) turn first then before after is ran = tt

-- memory is wanted for the next step
pub wants_now : (hart : ℕ) (process : Process) → WantsMemory hart process → WantsAt hart process 0 hart process
wants_now hart process wants = record { ran = by_turns_none hart process; wants = wants }

pub wants_after : (n hart turn : ℕ) (before between : Process) → by_turns n hart before ≡ Some (turn, between) → WantsMemory turn between → WantsAt hart before n turn between
wants_after n hart turn before between ran wants = record { ran = ran; wants = wants }

pub wants_later : (n m hart turn then : ℕ) (before between after : Process) → by_turns n hart before ≡ Some (turn, between) → WantsAt turn between m then after → WantsAt hart before (n + m) then after
wants_later n m hart turn then before between after ran later =
    record { ran = more_turns n m hart turn then before between after ran later.ran; wants = later.wants }
