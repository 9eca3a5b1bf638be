-- A record that replays is refused for want of memory alone.
use Rattle.std.proofs.Common.{◌≡◌, ℕ, zero, suc, ◌+◌, ◌-◌, ◌*◌, ◌^◌, ◌<◌, ◌≤◌, Bool, true, false, List, [], ◌∷◌, ◌++◌, length, take, drop, slice_index, slice_index_or, Option, Some, None, is_none, IsSome, unwrap_or, if◌then◌else◌, refl, sym, ap, ◌∙◌, subst, arith, take-append-drop}
use Rattle.std.proofs.lemmas.Option.{none-some}
use Rattle.std.proofs.lemmas.Grind.{common_steps}
use Rattle.flat_machine.specs.Process.{Process, flat_run, flat_step, is_live, may_step}
use Rattle.flat_machine.specs.Refusals.{StopsAt}
use Rattle.flat_machine.specs.Schedule.{written_out, room, rest_in_last, IsJoined}
use Rattle.flat_machine.specs.declared.schedule.Turn.{Turn}
use Rattle.flat_machine.specs.declared.stepping.StepRefusal.TheVariants as refusals
use Rattle.flat_machine.proofs.RunLaws.{flat_run_append}
use Rattle.run_records.specs.Prints.{print_of}
use Rattle.run_records.specs.Records.{RecordValue}
use Rattle.run_records.specs.Replaying.{EndsLike, Replays, StopsReplay, TakesNoMore}
use Rattle.run_records.specs.declared.replaying.ReplayFault.{ReplayFault}
use Rattle.run_records.specs.declared.replaying.ReplayFault.TheVariants.{TooManyTurns, OtherSteps, HasEnded, NotLive, OtherEnd, OtherOutput, NoMemory}
use Rattle.run_records.proofs.Joined.{one_schedule}

-- ---- turns that are joined fit a schedule

first_joined : (turns : List Turn) (n : ℕ) → n ≤ length turns → IsJoined turns → IsJoined (take n turns)
first_joined turns n within joined = record {
  few = let few = joined.few in grind (arith, common_steps, few, within);
  small = λ k d less. let small = joined.small k d in grind (arith, common_steps, small, within, less);
  some = λ k d less. let some = joined.some k d in grind (arith, common_steps, some, within, less);
  joined = λ k d less same. let next = joined.joined k d in grind (arith, common_steps, next, within, less, same);
}

roomy : (turns : List Turn) (hart : ℕ) → length turns < 1000000 → 2 ^ 32 - 1 ≤ room turns hart
unfolding room
roomy turns hart few = omega (arith, few)

pub takes_more : (turns : List Turn) → IsJoined turns → ¬ TakesNoMore turns
takes_more turns joined none =
    let few = joined.few in
    let there = none.there in
    let same : none.schedule ≡ take none.before turns = one_schedule none.schedule (take none.before turns) none.joined (first_joined turns none.before (omega (arith, there)) joined) none.same in
    let long : length none.schedule ≡ none.before = ap length same ∙ grind (arith, common_steps, there) in
    let enough = roomy none.schedule none.next.hart (omega (arith, few, there, long)) in
    let small : none.next.count ≤ 2 ^ 32 - 1 = subst (λ (t : Turn). t.count ≤ 2 ^ 32 - 1) (sym none.is_next) (joined.small none.before none.next there) in
    let full = none.full in
    absurd (omega (arith, enough, small, full))

-- ---- a run that comes to its end is refused nowhere

-- a step that was done
record Steps (hart : ℕ) (process : Process) : Type 0 where
  pub after : Process
  pub done : flat_step hart process ≡ Some after

first_step : (hart : ℕ) (harts : List ℕ) (before after : Process) → flat_run (hart ∷ harts) before ≡ Some after → Steps hart before
unfolding flat_run
first_step hart harts before after ran =
    elim (flat_step hart before) as (λ o. flat_step hart before ≡ o → flat_run (hart ∷ harts) before ≡ Some after → Steps hart before) [
      | None ↦ λ none all. let e = none in absurd (none-some _ (sym (ap (λ o. option_run o) e) ∙ all))
      | Some next ↦ λ done all. record { after = next; done = done }
    ] refl ran
  where
    option_run : Option Process → Option Process
    option_run None = None
    option_run (Some next) = flat_run harts next

steps_at : (harts : List ℕ) (done : ℕ) (before at after : Process) → done < length harts → flat_run harts before ≡ Some after → flat_run (take done harts) before ≡ Some at → Steps (slice_index harts done) at
steps_at harts done before at after there ran so_far =
    let split : harts ≡ take done harts ++ (slice_index harts done ∷ drop (done + 1) harts) = grind (arith, common_steps, there) in
    first_step (slice_index harts done) (drop (done + 1) harts) at after (sym (flat_run_append (take done harts) (slice_index harts done ∷ drop (done + 1) harts) before at so_far) ∙ ap (λ l. flat_run l before) (sym split) ∙ ran)

has_stepped : (hart : ℕ) (process : Process) → Steps hart process → may_step hart process ≡ true
unfolding flat_step
has_stepped hart process steps =
    elim (may_step hart process) as (λ b. may_step hart process ≡ b → may_step hart process ≡ true) [
      | true ↦ λ may. may
      | false ↦ λ may. let done = steps.done in absurd (grind (arith, may, done))
    ] refl

is_same : (a b : Process) (o : Option Process) → o ≡ Some a → o ≡ Some b → a ≡ b
is_same a b o one other = ap (λ (p : Option Process). unwrap_or p a) (sym one ∙ other)

pub same_end : (told : RecordValue) (before one other : Process) → Replays told before one → Replays told before other → one ≡ other
same_end told before one other replays again = is_same one other _ replays.ran again.ran

goes_on : (process : Process) (hart : ℕ) → may_step hart process ≡ true → IsSome process.ending → ⊥
goes_on process hart may ended = grind (arith, may, ended)

is_alive : (process : Process) (hart : ℕ) → may_step hart process ≡ true → is_live hart process ≡ false → ⊥
is_alive process hart may waits = grind (arith, may, waits)

pub only_memory : (told : RecordValue) (before flat after : Process) (fault : ReplayFault) → IsJoined told.turns → Replays told before flat → StopsReplay fault told before after → fault ≡ NoMemory
only_memory told before flat after TooManyTurns joined replays stops = absurd (takes_more told.turns joined stops.0)
only_memory told before flat after OtherSteps joined replays stops = absurd (stops.0 replays.steps)
only_memory told before flat after (HasEnded done) joined replays stops =
    let harts = written_out told.turns in
    let may = has_stepped (slice_index harts done) after (steps_at harts done before after flat stops.there replays.ran stops.ran) in
    absurd (goes_on after (slice_index harts done) may stops.refused)
only_memory told before flat after (NotLive done) joined replays stops =
    let harts = written_out told.turns in
    let may = has_stepped (slice_index harts done) after (steps_at harts done before after flat stops.there replays.ran stops.ran) in
    absurd (is_alive after (slice_index harts done) may stops.refused.1)
only_memory told before flat after OtherEnd joined replays stops =
    absurd (stops.1 (subst (λ (p : Process). EndsLike told.closing.end p.ending) (is_same flat after _ replays.ran stops.0) replays.ended))
only_memory told before flat after OtherOutput joined replays stops =
    absurd (stops.1 (subst (λ (p : Process). print_of p.environment.output ≡ told.closing.output) (is_same flat after _ replays.ran stops.0) replays.output))
only_memory told before flat after NoMemory joined replays stops = refl
