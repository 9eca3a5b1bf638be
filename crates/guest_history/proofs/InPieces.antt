-- A run in pieces stops where it stops at once.
use Rattle.std.proofs.Common.{◌≡◌, ◌∙◌, ℕ, zero, suc, ◌+◌, ◌-◌, ◌<◌, ◌≤◌, Bool, true, false, List, Option, Some, None, IfSome, is_some, option_and_then, option_map, refl, sym, ap, subst, arith, inl, inr}
use Rattle.std.specs.Prelude.{◌==◌}
use Rattle.std.specs.FinMap as map
use Rattle.std.proofs.lemmas.Bool.{cases_lt, false≢true}
use Rattle.std.proofs.lemmas.Bool.Decides.{eqb_tells}
use Rattle.std.proofs.lemmas.Option.{none-some}
use Rattle.page_memory.specs.Memory.{Memory, unreserved}
use Rattle.flat_machine.specs.Process.{Process, flat_step, hart_registers, is_live}
use Rattle.debug_core.specs.Debugging.{opening_moment, turn_left, DebuggerValue}
use Rattle.debug_core.specs.Stops.{break_at, last_hart, moment_after, next_moment, reason, turn_next, IsFullAt, Moment, Passes, Stops, StopsFor}
use Rattle.debug_core.specs.declared.point.Point.{Point}
use Rattle.debug_core.specs.declared.point.Why.{Why}
use Rattle.debug_core.specs.declared.point.Why.TheVariants.{Ended, Watch, Gone, Break, Absent}
use Rattle.debug_core.specs.declared.point.Why.TheVariants as stop
use Rattle.debug_core.proofs.Passing.{last_of_more, passes_none}
use Rattle.guest_history.specs.Going.{lacks, shows, watch_of}
use Rattle.run_paths.specs.declared.path.Whose.{Whose}
use Rattle.run_paths.specs.declared.path.Whose.TheVariants.{ByTurns, Hart}
use Rattle.guest_history.specs.Runs.{TurnIs}
use Rattle.guest_history.proofs.ByRecord.{shape, calm, is_why, none_absent, nothing_hit, quiet, reason_at, reason_is, there, unequal, unhit}
use Rattle.guest_history.proofs.MovesOn.{before_next, none_done, some_moment, stopped_at}

-- ---- reasons

-- whether more steps are allowed changes nothing but that reason
with_last : (ended : Bool) (hit : Option ℕ) (live : Bool) (at : Option ℕ) (last later : Bool) (why : Why) → shape ended hit live at last ≡ Some why → (why ≡ stop.Limit → later ≡ true) → shape ended hit live at later ≡ Some why
with_last true hit live at last later why e also = e
with_last false (Some n) live at last later why e also = e
with_last false None false at last later why e also = e
with_last false None true (Some n) last later why e also = e
with_last false None true None true later why e also = ap (shape false None true None) (also (sym (is_why stop.Limit why e))) ∙ e
with_last false None true None false later why e also = absurd (none-some why e)

abbrev IsLimit : Why → Type 0
IsLimit Ended = ⊥
IsLimit (Watch number) = ⊥
IsLimit Gone = ⊥
IsLimit (Break number) = ⊥
IsLimit stop.Limit = Unit {0}
IsLimit Absent = ⊥

at_limit : (ended : Bool) (hit : Option ℕ) (live : Bool) (at : Option ℕ) (last : Bool) → shape ended hit live at last ≡ Some stop.Limit → last ≡ true
at_limit true hit live at last e = elim (subst IsLimit (sym (is_why Ended stop.Limit e)) tt) [ ]
at_limit false (Some n) live at last e = elim (subst IsLimit (sym (is_why (Watch n) stop.Limit e)) tt) [ ]
at_limit false None false at last e = elim (subst IsLimit (sym (is_why Gone stop.Limit e)) tt) [ ]
at_limit false None true (Some n) last e = elim (subst IsLimit (sym (is_why (Break n) stop.Limit e)) tt) [ ]
at_limit false None true None true e = refl
at_limit false None true None false e = absurd (none-some stop.Limit e)

equal_of : (a b : ℕ) → (a == b) ≡ true → a ≡ b
equal_of a b e = elim (eqb_tells a b) [ inl same ↦ same.1 | inr differ ↦ absurd (false≢true (sym differ.0 ∙ e)) ]

equal_is : (a b : ℕ) → a ≡ b → (a == b) ≡ true
equal_is a b same = elim (eqb_tells a b) [ inl is ↦ is.0 | inr differ ↦ absurd (differ.1 same) ]

-- on flat memory a debugger stops for its reason
stops_with : (full : Type 0) (why : Why) (points : List (Option Point)) (limit count : ℕ) (now : Moment) (process : Process) → process ≡ now.process → reason points limit count now ≡ Some why → StopsFor shows lacks full why points limit count now process
stops_with full Ended points limit count now process is why = inl (is, why)
stops_with full (Watch number) points limit count now process is why = (is, why)
stops_with full Gone points limit count now process is why = (is, why)
stops_with full (Break number) points limit count now process is why = (is, why)
stops_with full stop.Limit points limit count now process is why = (is, why)
stops_with full Absent points limit count now process is why =
    absurd (none_absent (is_some now.process.ending) (watch_of points now.was now.process) (is_live now.turn now.process) (break_at points (hart_registers now.turn now.process)) (count == limit) (sym (reason_is points limit count now.turn now refl) ∙ why))

-- ---- moments

-- the memory before the first step changes no later moment
later : (k turn : ℕ) (process : Process) (was other : Memory) (alone : Bool)
    → moment_after (suc k) (record { process = process; turn = turn; was = was; alone = alone }) ≡ moment_after (suc k) (record { process = process; turn = turn; was = other; alone = alone })
unfolding moment_after
later zero turn process was other alone = refl
later (suc k) turn process was other alone = ap (option_and_then next_moment) (later k turn process was other alone)

-- moments after moments
behind : (count k : ℕ) (first now : Moment) → moment_after count first ≡ Some now → moment_after (count + k) first ≡ moment_after k now
unfolding moment_after
behind count zero first now e = let same : count + 0 ≡ count = omega arith in ap (λ n. moment_after n first) same ∙ e
behind count (suc k) first now e =
    let more : count + suc k ≡ suc (count + k) = omega arith in
    ap (λ n. moment_after n first) more ∙ ap (option_and_then next_moment) (behind count k first now e)

next_alone : (p m : Moment) → next_moment p ≡ Some m → m.alone ≡ p.alone
next_alone p m e = by_step (flat_step p.turn p.process) e
  where
    by_step : (o : Option Process) → option_map (λ next. record { process = next; turn = turn_next p.alone p.turn next; was = p.process.memory; alone = p.alone }) o ≡ Some m → m.alone ≡ p.alone
    by_step None f = absurd (none-some m f)
    by_step (Some next) f = ap (λ (x : Moment). x.alone) (sym (some_moment (record { process = next; turn = turn_next p.alone p.turn next; was = p.process.memory; alone = p.alone }) m f))

alone_stays : (count : ℕ) (first now : Moment) → moment_after count first ≡ Some now → now.alone ≡ first.alone
alone_stays zero first now e = ap (λ (x : Moment). x.alone) (sym (none_done first now e))
alone_stays (suc count) first now e =
    let before = before_next count first now e in
    next_alone before.0 now before.1.1 ∙ alone_stays count first before.0 before.1.0

-- ---- a run up to a piece

-- So many steps of a run have passed with no reason to stop, and no watch is hit.
pub record HasPassed (points : List (Option Point)) (limit count : ℕ) (first : Moment) (turn : ℕ) (process : Process) : Type 0 where
  pub was : Memory
  pub passes : Passes (λ limit. ⊥) points limit count first (record { process = process; turn = turn; was = was; alone = first.alone })
  pub unhit : watch_of points was process ≡ None

pub none_passed : (points : List (Option Point)) (limit turn : ℕ) (process : Process) (alone : Bool) → HasPassed points limit 0 (opening_moment alone process turn) turn process
none_passed points limit turn process alone = record {
  was = unreserved map.empty;
  passes = passes_none (λ limit. ⊥) points limit (opening_moment alone process turn);
  unhit = nothing_hit points process;
}

-- where a piece ends, as a moment of the whole run
record EndsAt (points : List (Option Point)) (count k : ℕ) (first now : Moment) : Type 0 where
  at : Moment
  reached : moment_after (count + k) first ≡ Some at
  process_is : at.process ≡ now.process
  turn_is : at.turn ≡ now.turn
  hit_is : watch_of points at.was at.process ≡ watch_of points now.was now.process

module _ (points : List (Option Point)) (limit count piece k turn : ℕ) (process : Process) (first now : Moment) (passed : HasPassed points limit count first turn process)
    (next : Passes (λ limit. ⊥) points piece k (opening_moment first.alone process turn) now) (few : count + piece ≤ limit) where
  here : Moment
  here = record { process = process; turn = turn; was = passed.was; alone = first.alone }

  begin : Moment
  begin = opening_moment first.alone process turn

  -- the moments of the piece, but for its first
  after : (j : ℕ) (m : Moment) → moment_after (suc j) begin ≡ Some m → moment_after (count + suc j) first ≡ Some m
  unfolding here begin
  after j m e = behind count (suc j) first here passed.passes.reached ∙ later j turn process passed.was (unreserved map.empty) first.alone ∙ e

  calm_at : (j : ℕ) (m : Moment) → moment_after j begin ≡ Some m → j < k → reason points piece j m ≡ None → (y : Moment) × ((moment_after (count + j) first ≡ Some y) × (reason points limit (count + j) y ≡ None))
  unfolding here begin
  calm_at zero m e h none =
      let same : count + 0 ≡ count = omega arith in
      let short = next.within in
      let less : ¬ (count + 0 ≡ limit) = λ is. omega (arith, is, few, short, h) in
      let calm_there : reason points piece 0 begin ≡ None = ap (reason points piece 0) (none_done begin m e) ∙ none in (
        here,
        (
          ap (λ n. moment_after n first) same ∙ passed.passes.reached,
          reason_is points limit (count + 0) turn here refl
              ∙ calm (is_some process.ending) (watch_of points (unreserved map.empty) process) (is_live turn process) (break_at points (hart_registers turn process)) (0 == piece)
              (watch_of points passed.was process) (count + 0 == limit) (sym (reason_is points piece 0 turn begin refl) ∙ calm_there) passed.unhit (unequal (count + 0) limit less),
        ),
      )
  calm_at (suc j) m e h none =
      let short = next.within in
      let less : ¬ (count + suc j ≡ limit) = λ is. omega (arith, is, few, short, h) in
      let shaped = sym (reason_is points piece (suc j) m.turn m refl) ∙ none in (
        m,
        (
          after j m e,
          reason_is points limit (count + suc j) m.turn m refl
              ∙ calm (is_some m.process.ending) (watch_of points m.was m.process) (is_live m.turn m.process) (break_at points (hart_registers m.turn m.process)) (suc j == piece)
              (watch_of points m.was m.process) (count + suc j == limit) shaped
              (unhit (is_some m.process.ending) (watch_of points m.was m.process) (is_live m.turn m.process) (break_at points (hart_registers m.turn m.process)) (suc j == piece) shaped)
              (unequal (count + suc j) limit less),
        ),
      )

  before_in : (j : ℕ) → j < k → IfSome (moment_after (count + j) first) (λ now. (reason points limit (count + j) now ≡ None) × (¬ IsFullAt (λ limit. ⊥) (count + j) first now))
  unfolding begin
  before_in j h =
      let all : j + (k - j) ≡ k = omega (arith, h) in
      let m = there j (k - j) begin now (ap (λ n. moment_after n begin) all ∙ next.reached) in
      let calm_there = (subst (λ o. IfSome o (λ now. (reason points piece j now ≡ None) × (¬ IsFullAt (λ limit. ⊥) j begin now))) m.1 (next.before j h)).0 in
      let y = calm_at j m.0 m.1 h calm_there in
      subst (λ o. IfSome o (λ now. (reason points limit (count + j) now ≡ None) × (¬ IsFullAt (λ limit. ⊥) (count + j) first now))) (sym y.1.0) (y.1.1, (λ full. full))

  before_all : (i : ℕ) → i < count + k → IfSome (moment_after i first) (λ now. (reason points limit i now ≡ None) × (¬ IsFullAt (λ limit. ⊥) i first now))
  before_all i h = elim (cases_lt i count) [
    | inl below ↦ passed.passes.before i below
    | inr above ↦ (let is : count + (i - count) ≡ i = omega (arith, above) in
        subst (λ n. IfSome (moment_after n first) (λ now. (reason points limit n now ≡ None) × (¬ IsFullAt (λ limit. ⊥) n first now))) is (before_in (i - count) (omega (arith, above, h))))
  ]

  ends_at : (j : ℕ) → moment_after j begin ≡ Some now → EndsAt points count j first now
  unfolding here begin
  ends_at zero e =
      let same : count + 0 ≡ count = omega arith in
      let is = none_done begin now e in
      record {
        at = here;
        reached = ap (λ n. moment_after n first) same ∙ passed.passes.reached;
        process_is = ap (λ (x : Moment). x.process) is;
        turn_is = ap (λ (x : Moment). x.turn) is;
        hit_is = passed.unhit ∙ sym (nothing_hit points process) ∙ ap (λ (x : Moment). watch_of points x.was x.process) is;
      }
  ends_at (suc j) e = record { at = now; reached = after j now e; process_is = refl; turn_is = refl; hit_is = refl }

  end : EndsAt points count k first now
  unfolding begin
  end = ends_at k next.reached

  passes_to : Passes (λ limit. ⊥) points limit (count + k) first end.at
  passes_to = let short = next.within in record { reached = end.reached; within = omega (arith, few, short); before = before_all }

  -- the reason at the end of the piece is one of the whole run, unless more steps are allowed there
  same_end : (why : Why) → reason points piece k now ≡ Some why → (why ≡ stop.Limit → count + k ≡ limit) → reason points limit (count + k) end.at ≡ Some why
  same_end why e last =
      reason_is points limit (count + k) now.turn end.at end.turn_is
      ∙ ap (λ (hit : Option ℕ). shape (is_some end.at.process.ending) hit (is_live now.turn end.at.process) (break_at points (hart_registers now.turn end.at.process)) (count + k == limit)) end.hit_is
      ∙ ap (λ (p : Process). shape (is_some p.ending) (watch_of points now.was now.process) (is_live now.turn p) (break_at points (hart_registers now.turn p)) (count + k == limit)) end.process_is
      ∙ with_last (is_some now.process.ending) (watch_of points now.was now.process) (is_live now.turn now.process) (break_at points (hart_registers now.turn now.process)) (k == piece) (count + k == limit) why
      (sym (reason_is points piece k now.turn now refl) ∙ e) (λ limited. equal_is (count + k) limit (last limited))

  pub goes_further : reason points piece k now ≡ Some stop.Limit → HasPassed points limit (count + k) first now.turn now.process
  goes_further e =
      let is = quiet (is_some now.process.ending) (watch_of points now.was now.process) (is_live now.turn now.process) (break_at points (hart_registers now.turn now.process)) (k == piece) stop.Limit
      (sym (reason_is points piece k now.turn now refl) ∙ e) tt in
      let alone = alone_stays (count + k) first end.at end.reached in
      let made : end.at ≡ record { process = now.process; turn = now.turn; was = end.at.was; alone = first.alone } = λ i. record { process = end.process_is i; turn = end.turn_is i; was = end.at.was; alone = alone i } in
      record {
        was = end.at.was;
        passes = subst (Passes (λ limit. ⊥) points limit (count + k) first) made passes_to;
        unhit = ap (λ (p : Process). watch_of points end.at.was p) (sym end.process_is) ∙ end.hit_is ∙ is.1;
      }

  pub whole_piece : reason points piece k now ≡ Some stop.Limit → k ≡ piece
  whole_piece e =
      equal_of k piece (at_limit (is_some now.process.ending) (watch_of points now.was now.process) (is_live now.turn now.process) (break_at points (hart_registers now.turn now.process)) (k == piece)
      (sym (reason_is points piece k now.turn now refl) ∙ e))

module _ (points : List (Option Point)) (limit count piece k turn next_turn : ℕ) (process next_process target : Process) (first : Moment) (why : Why) (passed : HasPassed points limit count first turn process)
    (stops : Stops shows lacks process points piece why k (opening_moment first.alone process turn) next_turn next_process) (few : count + piece ≤ limit) where
  why_is : reason points piece k stops.now ≡ Some why
  why_is = reason_at _ why points piece k stops.now next_process (λ full. full) stops.stops

  process_is : next_process ≡ stops.now.process
  process_is = stopped_at _ why points piece k stops.now next_process (λ full. full) stops.stops

  pub passes_further : why ≡ stop.Limit → HasPassed points limit (count + k) first next_turn next_process
  passes_further limited =
      subst (HasPassed points limit (count + k) first next_turn) (sym process_is)
      (subst (λ (t : ℕ). HasPassed points limit (count + k) first t stops.now.process) (sym stops.turn_is)
      (goes_further points limit count piece k turn process first stops.now passed stops.passes few (why_is ∙ ap Some limited)))

  pub is_whole : why ≡ stop.Limit → k ≡ piece
  is_whole limited = whole_piece points limit count piece k turn process first stops.now passed stops.passes few (why_is ∙ ap Some limited)

  pub stops_whole : (why ≡ stop.Limit → count + k ≡ limit) → Stops shows lacks target points limit why (count + k) first next_turn next_process
  stops_whole last =
      let last_one = end points limit count piece k turn process first stops.now passed stops.passes few in
      record {
        now = last_one.at;
        passes = passes_to points limit count piece k turn process first stops.now passed stops.passes few;
        stops = stops_with _ why points limit (count + k) last_one.at next_process (process_is ∙ sym last_one.process_is) (same_end points limit count piece k turn process first stops.now passed stops.passes few why why_is last);
        turn_is = stops.turn_is ∙ sym last_one.turn_is;
      }

  -- no step changes nothing
  pub still : k ≡ 0 → next_process ≡ process
  still none =
      process_is ∙ ap (λ (x : Moment). x.process) (sym (none_done (opening_moment first.alone process turn) stops.now (ap (λ n. moment_after n (opening_moment first.alone process turn)) (sym none) ∙ stops.passes.reached)))

-- the hart of the last step of a piece is that of the whole run
pub last_further : (points : List (Option Point)) (limit count k turn : ℕ) (process : Process) (first : Moment) → HasPassed points limit count first turn process → 0 < k → last_hart (count + k) first ≡ last_hart k (opening_moment first.alone process turn)
unfolding last_hart moment_after
last_further points limit count zero turn process first passed some = absurd (omega (arith, some))
last_further points limit count (suc zero) turn process first passed some =
    last_of_more count first (record { process = process; turn = turn; was = passed.was; alone = first.alone }) passed.passes.reached
last_further points limit count (suc (suc j)) turn process first passed some =
    let more : count + suc (suc j) ≡ suc (count + suc j) = omega arith in
    ap (λ n. last_hart n first) more
    ∙ ap (option_map (λ (x : Moment). x.turn))
    (behind count (suc j) first (record { process = process; turn = turn; was = passed.was; alone = first.alone }) passed.passes.reached ∙ later j turn process passed.was (unreserved map.empty) first.alone)

-- whose turn it is after a piece
pub turn_further : (whose : Whose) (count k : ℕ) (old mid new : DebuggerValue Process) → TurnIs whose count old mid → TurnIs whose k mid new → (k ≡ 0 → new.target ≡ mid.target) → TurnIs whose (count + k) old new
turn_further ByTurns count k old mid new before is none = tt
turn_further (Hart hart) count zero old mid new before is none =
    let same : count ≡ count + 0 = omega arith in
    is ∙ before ∙ ap (turn_left count hart old.turn) (sym (none refl)) ∙ ap (λ n. turn_left n hart old.turn new.target) same
turn_further (Hart hart) count (suc k) old mid new before is none =
    let more : suc (count + k) ≡ count + suc k = omega arith in
    is ∙ ap (λ n. turn_left n hart old.turn new.target) more

-- whose turn it is, and whose step the last one was, before any
pub turn_before : (whose : Whose) (debugger : DebuggerValue Process) → TurnIs whose 0 debugger debugger
turn_before ByTurns debugger = tt
turn_before (Hart hart) debugger = refl

pub last_on : (points : List (Option Point)) (limit count k turn : ℕ) (process : Process) (first : Moment) (whose : Whose) (before last result : ℕ) → HasPassed points limit count first turn process → (whose ≡ ByTurns → last_hart count first ≡ Some before)
    → (whose ≡ ByTurns → last_hart k (opening_moment first.alone process turn) ≡ Some last) → (0 < k → result ≡ last) → (k ≡ 0 → result ≡ before) → whose ≡ ByTurns → last_hart (count + k) first ≡ Some result
last_on points limit count zero turn process first whose before last result passed was is some none by_turns =
    let same : count + 0 ≡ count = omega arith in
    ap (λ n. last_hart n first) same ∙ was by_turns ∙ ap Some (sym (none refl))
last_on points limit count (suc k) turn process first whose before last result passed was is some none by_turns =
    last_further points limit count (suc k) turn process first passed (omega arith) ∙ is by_turns ∙ ap Some (sym (some (omega arith)))
