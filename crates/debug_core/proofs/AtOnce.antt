-- Steps that are taken at once, where no point can stop them.
use Rattle.std.proofs.Common.{◌≡◌, ◌≢◌, ◌+◌, ◌==◌, ◌<◌, ◌≤◌, ℕ, zero, suc, Bool, true, false, [], Option, Some, None, IsSome, is_some, cond, option_map, option_and_then, unwrap_or, arith, refl, ap, sym, ◌∙◌, subst, ne_eqb}
use Rattle.std.specs.Option.{option_or}
use Rattle.std.proofs.lemmas.Option.{none-some}
use Rattle.rv_exec.specs.Registers.{Registers}
use Rattle.flat_machine.specs.ByTurns.{by_turns, turn_after}
use Rattle.flat_machine.specs.Process.{Process, hart_registers, is_live, may_step, flat_step}
use Rattle.flat_machine.proofs.RunLaws.{both_are}
use Rattle.flat_machine.proofs.StepLaws.{ended_lives, has_no_ending, is_live_in}
use Rattle.debug_core.specs.Debugging.{first_moment}
use Rattle.debug_core.specs.Limits.{lacks_none}
use Rattle.debug_core.specs.Stops.{break_at, last_hart, moment_after, next_moment, reason, reason_before, turn_next, watch_hit, Moment, Passes, PassesTo, WantsAfter}
use Rattle.debug_core.specs.declared.point.Why.TheVariants.{Ended, Watch, Gone, Break, Limit as Limited}
use Rattle.debug_core.proofs.Passing.{passes_more, passes_none}

-- ---- where there are no points

no_break : (registers : Option Registers) → break_at [] registers ≡ None
no_break None = refl
no_break (Some registers) = refl

-- a hart that may step stops for no reason but the limit
pub no_reason : (limit count : ℕ) (now : Moment) → may_step now.turn now.process ≡ true → count ≢ limit → reason [] limit count now ≡ None
no_reason limit count now may below =
    ap (λ o. cond (is_some o) (Some Ended) (option_or (option_map Watch (watch_hit [] now)) (cond (is_live now.turn now.process) (reason_before [] limit count now) (Some Gone))))
    (has_no_ending now.turn now.process may)
    ∙ ap (λ b. cond b (reason_before [] limit count now) (Some Gone)) (is_live_in now.turn now.process may)
    ∙ ap (λ o. option_or (option_map Break o) (cond (count == limit) (Some Limited) None)) (no_break (hart_registers now.turn now.process))
    ∙ ap (λ b. cond b (Some Limited) None) (ne_eqb count limit below)

may_of : (may : Bool) (found : Option Process) (next : Process) → cond may found None ≡ Some next → may ≡ true
may_of true found next e = refl
may_of false found next e = absurd (none-some next e)

stepped_may : (hart : ℕ) (process next : Process) → flat_step hart process ≡ Some next → may_step hart process ≡ true
unfolding flat_step
stepped_may hart process next e = may_of (may_step hart process) _ next e

-- ---- steps by turns

-- the moment after a step by turns
abbrev then_of : Moment → Process → Moment
then_of now next = record { process = next; turn = turn_next now.alone now.turn next; was = now.process.memory; alone = now.alone }

-- one more step by turns
pub turn_more : (limit count : ℕ) (first now : Moment) (next : Process) → Passes lacks_none [] limit count first now → count ≢ limit → flat_step now.turn now.process ≡ Some next
    → Passes lacks_none [] limit (count + 1) first (then_of now next)
turn_more limit count first now next passes below step =
    passes_more lacks_none [] limit count first now (then_of now next) passes (no_reason limit count now (stepped_may now.turn now.process next step) below) (λ full. full)
    (ap (option_map (then_of now)) step) below

-- whose turn it is after a step by turns
pub turn_of : (now : Moment) (next : Process) → now.alone ≡ false → turn_next now.alone now.turn next ≡ turn_after now.turn next
turn_of now next others = ap (λ alone. turn_next alone now.turn next) others

passes_on : (limit more count turn : ℕ) (first now : Moment) (process : Process) → Passes lacks_none [] limit count first now → now.alone ≡ false → first.alone ≡ false → count + more ≤ limit
    → by_turns more now.turn now.process ≡ Some (turn, process) → PassesTo lacks_none [] limit (count + more) first turn process
unfolding by_turns
passes_on limit zero count turn first now process passes others alone few ran =
    let parts = both_are now.turn turn now.process process ran in
    let here : now ≡ record { process = process; turn = turn; was = now.was; alone = first.alone } =
    λ i. record { process = parts.1 i; turn = parts.0 i; was = now.was; alone = (others ∙ sym alone) i } in
    let same : count ≡ count + 0 = omega arith in
    record { was = now.was; passes = subst (λ k. Passes lacks_none [] limit k first (record { process = process; turn = turn; was = now.was; alone = first.alone })) same (subst (Passes lacks_none [] limit count first) here passes) }
passes_on limit (suc more) count turn first now process passes others alone few ran =
    one (λ m passed apart rest. passes_on limit more (count + 1) turn first m process passed apart alone (omega arith) rest) (flat_step now.turn now.process) refl ran
  where
    one : ((m : Moment) → Passes lacks_none [] limit (count + 1) first m → m.alone ≡ false → by_turns more m.turn m.process ≡ Some (turn, process) → PassesTo lacks_none [] limit (count + 1 + more) first turn process)
        → (o : Option Process) → flat_step now.turn now.process ≡ o → option_and_then (λ next. by_turns more (turn_after now.turn next) next) o ≡ Some (turn, process)
        → PassesTo lacks_none [] limit (count + suc more) first turn process
    one on None step never = absurd (none-some _ never)
    one on (Some next) step rest =
        let same : count + 1 + more ≡ count + suc more = omega arith in
        subst (λ k. PassesTo lacks_none [] limit k first turn process) same
        (on (then_of now next) (turn_more limit count first now next passes (omega arith) step) others (ap (λ t. by_turns more t next) (turn_of now next others) ∙ rest))

-- so many steps by turns
pub passes_turns : (limit count hart turn : ℕ) (old new : Process) → count ≤ limit → by_turns count hart old ≡ Some (turn, new) → PassesTo lacks_none [] limit count (first_moment old hart) turn new
passes_turns limit count hart turn old new few ran =
    let first : Moment = first_moment old hart in
    let same : 0 + count ≡ count = omega arith in
    subst (λ k. PassesTo lacks_none [] limit k first turn new) same (passes_on limit count 0 turn first first new (passes_none lacks_none [] limit first) refl refl (omega arith) ran)

-- ---- the last of them

-- the hart of the last of so many steps by turns, after which the process has ended: it is the live hart before
pub record LastOf (count : ℕ) (first : Moment) (turn : ℕ) (process : Process) : Type 0 where
  pub hart : ℕ
  pub last : last_hart count first ≡ Some hart
  pub lives : is_live hart process ≡ true
  pub is : turn_after hart process ≡ turn

pub last_turn : (limit count hart turn : ℕ) (old new : Process) → PassesTo lacks_none [] limit count (first_moment old hart) turn new → 0 < count → IsSome new.ending → LastOf count (first_moment old hart) turn new
unfolding moment_after last_hart
last_turn limit zero hart turn old new passes some ended = absurd (omega arith)
last_turn limit (suc count) hart turn old new passes some ended = before (moment_after count (first_moment old hart)) refl passes.passes.reached
  where
    now : Moment
    now = record { process = new; turn = turn; was = passes.was; alone = false }

    at : (m : Moment) (o : Option Process) → moment_after count (first_moment old hart) ≡ Some m → flat_step m.turn m.process ≡ o → option_map (then_of m) o ≡ Some now → LastOf (suc count) (first_moment old hart) turn new
    at m None reached step never = absurd (none-some now never)
    at m (Some next) reached step is =
        let then : then_of m next ≡ now = ap (λ o. unwrap_or o (then_of m next)) is in
        let process : next ≡ new = ap (λ (n : Moment). n.process) then in
        let others : m.alone ≡ false = ap (λ (n : Moment). n.alone) then in
        let turns : turn_next m.alone m.turn next ≡ turn = ap (λ (n : Moment). n.turn) then in
        record {
          hart = m.turn;
          last = ap (option_map (λ (n : Moment). n.turn)) reached;
          lives = ended_lives m.turn m.process new (step ∙ ap Some process) ended;
          is = ap (turn_after m.turn) (sym process) ∙ sym (turn_of m next others) ∙ turns;
        }

    before : (o : Option Moment) → moment_after count (first_moment old hart) ≡ o → option_and_then next_moment o ≡ Some now → LastOf (suc count) (first_moment old hart) turn new
    before None reached never = absurd (none-some now never)
    before (Some m) reached is = at m (flat_step m.turn m.process) reached refl is

-- ---- memory is wanting

-- for the next step of a hart that may step
pub wants_turn : {T : Type 0} (target : T) (limit count hart turn : ℕ) (old new : Process) → PassesTo lacks_none [] limit count (first_moment old hart) turn new → may_step turn new ≡ true → count ≢ limit
    → WantsAfter (λ (_ : T). lacks_none) target [] limit count (first_moment old hart) turn new
wants_turn target limit count hart turn old new passes may below = record {
  now = record { process = new; turn = turn; was = passes.was; alone = false };
  passes = passes.passes;
  none = no_reason limit count (record { process = new; turn = turn; was = passes.was; alone = false }) may below;
  recordable = λ full. full;
  process_is = refl;
  turn_is = refl;
}
