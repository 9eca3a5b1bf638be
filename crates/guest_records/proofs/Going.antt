-- Runs that go on, turn by turn, and what is told of them.
use Rattle.std.proofs.Common.{◌≡◌, ℕ, ◌+◌, List, [], ◌∷◌, ◌++◌, length, replicate, zero, suc, Option, None, Some, IfSome, IsSome, option_map, option_and_then, unwrap_or, ◌≤◌, refl, sym, ap, ◌∙◌, subst, append_assoc, append-nil, length-append}
use Rattle.std.proofs.lemmas.List.{length-replicate}
use Rattle.std.proofs.lemmas.Option.{none-some}
use Rattle.flat_machine.specs.ByTurns.{by_turns, turn_after, turns}
use Rattle.flat_machine.specs.Process.{Process, flat_run, flat_step}
use Rattle.flat_machine.proofs.RunLaws.{by_turns_run, flat_run_append, flat_run_none}
use Rattle.flat_machine.specs.Schedule.{written_out}
use Rattle.flat_machine.specs.declared.schedule.Turn.{Turn}
use Rattle.run_records.specs.Prints.{print_of}
use Rattle.run_records.specs.Records.{RecordValue}
use Rattle.run_records.specs.Replaying.{EndsLike, Replays}
use Rattle.guest_records.specs.GoingOn.{EndsAfter, EndsFor, EndsWithin, GoesOn, StopsFor}
use Rattle.flat_machine.specs.declared.end.End.{End}
use Rattle.flat_machine.specs.declared.end.End.TheVariants.{Killed}
use Rattle.flat_machine.specs.declared.end.KillCause.{KillCause}

pub goes_nowhere : (kept : List Turn) (process : Process) → GoesOn kept process kept process 0
goes_nowhere kept process = record { harts = []; added = sym (append-nil (written_out kept)); ran = flat_run_none process; many = refl }

pub goes_further : (kept now new : List Turn) (before between after : Process) (steps k hart more : ℕ) → more ≡ steps + k → GoesOn kept before now between steps
    → written_out new ≡ written_out now ++ replicate k hart → flat_run (replicate k hart) between ≡ Some after → GoesOn kept before new after more
goes_further kept now new before between after steps k hart more more_is so_far added ran = record {
  harts = so_far.harts ++ replicate k hart;
  added = added ∙ ap (λ (l : List ℕ). l ++ replicate k hart) so_far.added ∙ append_assoc (written_out kept) so_far.harts (replicate k hart);
  ran = flat_run_append so_far.harts (replicate k hart) before between so_far.ran ∙ ran;
  many = length-append so_far.harts (replicate k hart) ∙ ap (λ n. length so_far.harts + n) (length-replicate k hart) ∙ ap (λ n. n + k) so_far.many ∙ sym more_is;
}

-- a run from the beginning replays
replays_so : (told : RecordValue) (kept now : List Turn) (before after : Process) (steps : ℕ) → kept ≡ [] → GoesOn kept before now after steps → told.turns ≡ now → told.closing.steps ≡ steps
    → EndsLike told.closing.end after.ending → told.closing.output ≡ print_of after.environment.output → Replays told before after
replays_so told kept now before after steps none goes turns_are steps_are ended output =
    let all : written_out told.turns ≡ goes.harts = ap written_out turns_are ∙ goes.added ∙ ap (λ (l : List Turn). written_out l ++ goes.harts) none in
    record {
      ran = ap (λ (l : List ℕ). flat_run l before) all ∙ goes.ran;
      steps = ap length all ∙ goes.many ∙ sym steps_are;
      ended = ended;
      output = sym output;
    }

pub replays_from : (told : RecordValue) (kept now : List Turn) (begun start after : Process) (steps : ℕ) → begun ≡ start → kept ≡ [] → GoesOn kept begun now after steps → told.turns ≡ now
    → told.closing.steps ≡ steps → EndsLike told.closing.end after.ending → told.closing.output ≡ print_of after.environment.output → Replays told start after
replays_from told kept now begun start after steps begins none goes turns_are steps_are ended output =
    subst (λ (p : Process). Replays told p after) begins (replays_so told kept now begun after steps none goes turns_are steps_are ended output)

-- why it ended
ends_for : (own : Option End) (end : End) (cause : KillCause) (Stops : KillCause → Type 0) → IfSome own (λ its. end ≡ its) → (own ≡ None → end ≡ Killed cause) → (own ≡ None → Stops cause) → EndsFor own end Stops
ends_for (Some its) end cause Stops own killed stops = own
ends_for None end cause Stops own killed stops = (cause, (killed refl, stops refl))

pub ends_within : (limit : ℕ) (told : RecordValue) (now : List Turn) (after : Process) (steps : ℕ) (cause : KillCause) → steps ≤ limit → (after.ending ≡ None → StopsFor limit steps now after cause) → told.turns ≡ now → told.closing.steps ≡ steps
    → IfSome after.ending (λ its. told.closing.end ≡ its) → (after.ending ≡ None → told.closing.end ≡ Killed cause) → EndsWithin limit told after
ends_within limit told now after steps cause within stops turns_are steps_are own killed = record {
  within = subst (λ n. n ≤ limit) (sym steps_are) within;
  ends = ends_for after.ending told.closing.end cause (StopsFor limit told.closing.steps told.turns after) own killed
      (λ none. subst (λ n. StopsFor limit n told.turns after cause) (sym steps_are) (subst (λ l. StopsFor limit steps l after cause) (sym turns_are) (stops none)));
}

-- ---- runs that end

-- so many steps by turns have so many harts
turns_many : (n hart turn : ℕ) (before after : Process) → by_turns n hart before ≡ Some (turn, after) → length (turns n hart before) ≡ n
unfolding by_turns turns
turns_many zero hart turn before after e = refl
turns_many (suc n) hart turn before after e =
    elim (flat_step hart before) as (λ o. option_and_then (λ next. by_turns n (turn_after hart next) next) o ≡ Some (turn, after)
    → length (hart ∷ unwrap_or (option_map (λ next. turns n (turn_after hart next) next) o) []) ≡ suc n) [
      | None ↦ λ never. absurd (none-some _ never)
      | Some next ↦ λ f. ap suc (turns_many n (turn_after hart next) turn next after f)
    ] e

-- a run by turns
pub ends_by_turns : (n hart turn : ℕ) (before start after : Process) → before ≡ start → by_turns n hart before ≡ Some (turn, after) → IsSome after.ending → EndsAfter n start
ends_by_turns n hart turn before start after begins ran ended =
    subst (EndsAfter n) begins (record { harts = turns n hart before; after = after; many = turns_many n hart turn before after ran; ran = by_turns_run n hart turn before after ran; ended = ended })

-- a run by a schedule that is kept
pub ends_by_run : (kept now : List Turn) (before start after : Process) (steps : ℕ) → before ≡ start → GoesOn kept before now after steps → IsSome after.ending → EndsAfter steps start
ends_by_run kept now before start after steps begins goes ended =
    subst (EndsAfter steps) begins (record { harts = goes.harts; after = after; many = goes.many; ran = goes.ran; ended = ended })
