-- A run by a record stops for the first reason: turn by turn.
use Rattle.std.proofs.Common.{◌≡◌, ◌∙◌, ℕ, zero, suc, ◌+◌, ◌-◌, ◌<◌, ◌≤◌, Bool, true, false, List, [], ◌∷◌, Option, Some, None, is_some, option_map, option_and_then, unwrap_or, IfSome, cond, refl, sym, ap, subst, arith, inl, inr}
use Rattle.std.specs.Prelude.{◌==◌, ◌||◌, if◌then◌else◌}
use Rattle.std.proofs.lemmas.Bool.{cases_lt}
use Rattle.std.proofs.lemmas.Bool.Decides.{eqb_tells}
use Rattle.std.proofs.lemmas.Option.{none-some}
use Rattle.std.specs.FinMap as map
use Rattle.std.specs.List.{position_from}
use Rattle.std.specs.Option.{option_or}
use Rattle.page_memory.specs.Memory.{Memory, byte_at, unreserved}
use Rattle.flat_machine.specs.Process.{Process, flat_step, hart_registers, is_live}
use Rattle.debug_core.specs.Debugging.{lone_moment}
use Rattle.debug_core.specs.Points.{any_changed, bytes_from, has_changed, is_hit, point_at}
use Rattle.debug_core.specs.Seen.{CannotSee}
use Rattle.debug_core.specs.declared.target.TargetFault.{TargetFault}
use Rattle.debug_core.specs.Stops.{break_at, moment_after, next_moment, reason, turn_next, IsFullAt, Moment, Passes, StopsFor}
use Rattle.debug_core.specs.declared.point.Point.{Point}
use Rattle.debug_core.specs.declared.point.Point.TheVariants as point
use Rattle.debug_core.specs.declared.point.Why.{Why}
use Rattle.debug_core.specs.declared.point.Why.TheVariants.{Ended, Watch, Gone, Break, Absent}
use Rattle.debug_core.specs.declared.point.Why.TheVariants as stop
use Rattle.debug_core.proofs.Passing.{nothing_at}
use Rattle.run_paths.specs.declared.path.Path.{Path}
use Rattle.run_paths.specs.declared.path.Stretch.{Stretch}
use Rattle.run_paths.specs.declared.program.Program.{Program}
use Rattle.run_paths.specs.declared.path.Whose.{Whose}
use Rattle.run_paths.specs.declared.path.Whose.TheVariants.{Hart}
use Rattle.run_paths.specs.declared.running.Place.{Place}
use Rattle.run_paths.specs.Paths.{along, steps_of, whose_at}
use Rattle.run_paths.proofs.Along.{along_behind, whose_here, whose_past}
use Rattle.guest_history.specs.Going.{lacks, memory_before, memory_of, shows, stops_by, watch_of, why_last, why_next, EndsTurn, GoesTurn}
use Rattle.guest_history.specs.Checkpoints.{beginning}
use Rattle.guest_history.specs.Histories.{place_of, IsNext, Stands}
use Rattle.guest_history.specs.declared.history.History.{History}
use Rattle.guest_history.proofs.MovesOn.{alone_to, before_next, none_done, place_left, some_moment, stopped_at}

-- ---- reasons in their order

-- whether the process has ended, a watch that is hit, whether the next hart is live, a break, and whether no more steps are allowed
abbrev pub shape : Bool → Option ℕ → Bool → Option ℕ → Bool → Option Why
shape ended hit live at last =
    if ended then Some Ended
    else option_or (option_map Watch hit) (if live then option_or (option_map Break at) (if last then Some stop.Limit else None) else Some Gone)

pub is_why : (a b : Why) → ◌≡◌ {A = Option Why} (Some a) (Some b) → a ≡ b
is_why a b e = ap (λ (o : Option Why). unwrap_or o a) e

pub calm : (ended : Bool) (hit : Option ℕ) (live : Bool) (at : Option ℕ) (last : Bool) (other : Option ℕ) (later : Bool) → shape ended hit live at last ≡ None → other ≡ None → later ≡ false → shape ended other live at later ≡ None
calm true hit live at last other later e none more = absurd (none-some Ended (sym e))
calm false (Some n) live at last other later e none more = absurd (none-some (Watch n) (sym e))
calm false None false at last other later e none more = absurd (none-some Gone (sym e))
calm false None true (Some n) last other later e none more = absurd (none-some (Break n) (sym e))
calm false None true None true other later e none more = absurd (none-some stop.Limit (sym e))
calm false None true None false other later e none more = rw (none, more) refl

pub unhit : (ended : Bool) (hit : Option ℕ) (live : Bool) (at : Option ℕ) (last : Bool) → shape ended hit live at last ≡ None → hit ≡ None
unhit true hit live at last e = absurd (none-some Ended (sym e))
unhit false (Some n) live at last e = absurd (none-some (Watch n) (sym e))
unhit false None live at last e = refl

-- where a turn may end, the process has not ended and no watch is hit
pub quiet : (ended : Bool) (hit : Option ℕ) (live : Bool) (at : Option ℕ) (last : Bool) (why : Why) → shape ended hit live at last ≡ Some why → EndsTurn why → (ended ≡ false) × (hit ≡ None)
quiet true hit live at last why e ends = elim (subst EndsTurn (sym (is_why Ended why e)) ends) [ ]
quiet false (Some n) live at last why e ends = elim (subst EndsTurn (sym (is_why (Watch n) why e)) ends) [ ]
quiet false None live at last why e ends = (refl, refl)

-- the same reason, where no watch is hit
same_reason : (ended : Bool) (hit : Option ℕ) (live : Bool) (at : Option ℕ) (last : Bool) (other : Option ℕ) (why : Why) → shape ended hit live at last ≡ Some why → EndsTurn why → other ≡ None → shape ended other live at last ≡ Some why
same_reason ended hit live at last other why e ends none =
    let is = quiet ended hit live at last why e ends in
    ap (λ o. shape ended o live at last) (none ∙ sym is.1) ∙ e

abbrev IsEnded : Why → Type 0
IsEnded Ended = Unit {0}
IsEnded (Watch number) = ⊥
IsEnded Gone = ⊥
IsEnded (Break number) = ⊥
IsEnded stop.Limit = ⊥
IsEnded Absent = ⊥

abbrev IsWatch : ℕ → Why → Type 0
IsWatch n Ended = ⊥
IsWatch n (Watch number) = number ≡ n
IsWatch n Gone = ⊥
IsWatch n (Break number) = ⊥
IsWatch n stop.Limit = ⊥
IsWatch n Absent = ⊥

-- it has ended, or a watch is hit, whatever is next
has_ended : (ended : Bool) (hit : Option ℕ) (live : Bool) (at : Option ℕ) (last : Bool) → shape ended hit live at last ≡ Some Ended → ended ≡ true
has_ended true hit live at last e = refl
has_ended false (Some n) live at last e = elim (subst IsEnded (sym (is_why (Watch n) Ended e)) tt) [ ]
has_ended false None false at last e = elim (subst IsEnded (sym (is_why Gone Ended e)) tt) [ ]
has_ended false None true (Some n) last e = elim (subst IsEnded (sym (is_why (Break n) Ended e)) tt) [ ]
has_ended false None true None true e = elim (subst IsEnded (sym (is_why stop.Limit Ended e)) tt) [ ]
has_ended false None true None false e = absurd (none-some Ended e)

pub none_absent : (ended : Bool) (hit : Option ℕ) (live : Bool) (at : Option ℕ) (last : Bool) → shape ended hit live at last ≡ Some Absent → ⊥
none_absent true hit live at last e = elim (subst IsEnded (is_why Ended Absent e) tt) [ ]
none_absent false (Some m) live at last e = subst (IsWatch m) (is_why (Watch m) Absent e) refl
none_absent false None false at last e = subst EndsTurn (is_why Gone Absent e) tt
none_absent false None true (Some m) last e = subst EndsTurn (is_why (Break m) Absent e) tt
none_absent false None true None true e = subst EndsTurn (is_why stop.Limit Absent e) tt
none_absent false None true None false e = none-some Absent e

has_hit : (ended : Bool) (hit : Option ℕ) (live : Bool) (at : Option ℕ) (last : Bool) (n : ℕ) → shape ended hit live at last ≡ Some (Watch n) → (ended ≡ false) × (hit ≡ Some n)
has_hit true hit live at last n e = elim (subst (IsWatch n) (sym (is_why Ended (Watch n) e)) refl) [ ]
has_hit false (Some m) live at last n e = (refl, ap Some (subst (IsWatch n) (sym (is_why (Watch m) (Watch n) e)) refl))
has_hit false None false at last n e = elim (subst (IsWatch n) (sym (is_why Gone (Watch n) e)) refl) [ ]
has_hit false None true (Some m) last n e = elim (subst (IsWatch n) (sym (is_why (Break m) (Watch n) e)) refl) [ ]
has_hit false None true None true n e = elim (subst (IsWatch n) (sym (is_why stop.Limit (Watch n) e)) refl) [ ]
has_hit false None true None false n e = absurd (none-some (Watch n) e)

next_ended : (points : List (Option Point)) (limit count : ℕ) (was : Memory) (process : Process) (next : Option Whose) → is_some process.ending ≡ true → why_next points limit count was process next ≡ Some Ended
next_ended points limit count was process None e = rw e refl
next_ended points limit count was process (Some whose) e = rw e refl

next_hit : (points : List (Option Point)) (limit count : ℕ) (was : Memory) (process : Process) (next : Option Whose) (n : ℕ) → is_some process.ending ≡ false → watch_of points was process ≡ Some n
    → why_next points limit count was process next ≡ Some (Watch n)
next_hit points limit count was process None n e hit = rw (e, hit) refl
next_hit points limit count was process (Some whose) n e hit = rw (e, hit) refl

pub unequal : (a b : ℕ) → ¬ (a ≡ b) → (a == b) ≡ false
unequal a b differ = elim (eqb_tells a b) [ inl same ↦ absurd (differ same.1) | inr is ↦ is.0 ]

-- ---- before anything was seen

nothing_changed : (now : Memory) (address count : ℕ) → any_changed (bytes_from (unreserved map.empty) address count) (bytes_from now address count) ≡ false
unfolding bytes_from any_changed
nothing_changed now address zero = refl
nothing_changed now address (suc count) =
    ap (λ (o : Option ℕ). has_changed o (byte_at now address) || any_changed (bytes_from (unreserved map.empty) (address + 1) count) (bytes_from now (address + 1) count)) (nothing_at address)
    ∙ nothing_changed now (address + 1) count

nothing_is_hit : (now : Memory) (one : Option Point) → is_hit (unreserved map.empty) now one ≡ false
nothing_is_hit now None = refl
nothing_is_hit now (Some (point.Break address)) = refl
nothing_is_hit now (Some (point.Watch address count)) = nothing_changed now address count

never : {A : Type 0} (test : A → Bool) (k : ℕ) (points : List A) → ((p : A) → test p ≡ false) → position_from test k points ≡ None
never test k [] none = refl
never test k (p ∷ points) none = ap (λ b. cond b (Some k) (position_from test (k + 1) points)) (none p) ∙ never test (k + 1) points none

pub nothing_hit : (points : List (Option Point)) (now : Process) → watch_of points (unreserved map.empty) now ≡ None
nothing_hit points now = never (is_hit (unreserved map.empty) now.memory) 0 points (nothing_is_hit now.memory)

-- ---- the moments of a turn

next_was : (p m : Moment) → next_moment p ≡ Some m → m.was ≡ p.process.memory
next_was p m e = by_step (flat_step p.turn p.process) refl e
  where
    by_step : (o : Option Process) → flat_step p.turn p.process ≡ o → option_map (λ next. record { process = next; turn = turn_next p.alone p.turn next; was = p.process.memory; alone = p.alone }) o ≡ Some m → m.was ≡ p.process.memory
    by_step None is f = absurd (none-some m f)
    by_step (Some next) is f = ap (λ (x : Moment). x.was) (sym (some_moment (record { process = next; turn = turn_next p.alone p.turn next; was = p.process.memory; alone = p.alone }) m f))

-- each moment before one that there is
pub there : (j d : ℕ) (first now : Moment) → moment_after (j + d) first ≡ Some now → (m : Moment) × (moment_after j first ≡ Some m)
there j zero first now e = let same : j ≡ j + 0 = omega arith in (now, ap (λ n. moment_after n first) same ∙ e)
there j (suc d) first now e =
    let more : suc (j + d) ≡ j + suc d = omega arith in
    let before = before_next (j + d) first now (ap (λ n. moment_after n first) more ∙ e) in
    there j d first before.0 before.1.0

-- the moment after so many steps of a turn, on the path
record InTurn (path : List Stretch) (first : Place) (from hart j : ℕ) (at : Place) (m : Moment) : Type 0 where
  led : along path (from + j) first ≡ Some (place_left j hart at.turn m)
  turn : m.turn ≡ hart

in_turn : (path : List Stretch) (first : Place) (from hart n j : ℕ) (at : Place) (m : Moment) → ((i : ℕ) → i < n → whose_at path (from + i) ≡ Some (Hart hart)) → along path from first ≡ Some at
    → moment_after j (lone_moment at.process hart) ≡ Some m → j ≤ n → InTurn path first from hart j at m
in_turn path first from hart n j at m whose led e few =
    let one : Stretch = record { whose = Hart hart; count = j } in
    let alone = alone_to (one ∷ []) j hart at.turn (lone_moment at.process hart) m (refl, refl) (λ i h. whose_here one [] i h) e in
    record {
      led = sym (along_behind (one ∷ []) path from j first at led (λ i h. whose_here one [] i h ∙ sym (whose i (omega (arith, h, few))))) ∙ alone.1;
      turn = alone.0.1;
    }

-- ---- a run up to a turn

-- There was no reason to stop before; and none that the next hart can't change.
pub record Passed (points : List (Option Point)) (path : List Stretch) (first : Place) (from limit taken : ℕ) (at : Process) : Type 0 where
  pub before : (i : ℕ) → i < taken → stops_by points path first from limit i ≡ None
  pub quiet : 0 < taken → (is_some at.ending ≡ false) × (watch_of points (memory_before path first from taken) at ≡ None)

pub none_passed : (points : List (Option Point)) (path : List Stretch) (first : Place) (from limit : ℕ) (at : Process) → Passed points path first from limit 0 at
none_passed points path first from limit at = record { before = λ i h. absurd (omega (arith, h)); quiet = λ h. absurd (omega (arith, h)) }

stops_here : (points : List (Option Point)) (path : List Stretch) (first : Place) (from limit n : ℕ) (p : Place) (o : Option Whose) → along path (from + n) first ≡ Some p → whose_at path (from + n) ≡ o
    → stops_by points path first from limit n ≡ why_next points limit n (memory_before path first from n) p.process o
stops_here points path first from limit n p o led whose =
    ap (option_and_then (λ (at : Place). why_next points limit n (memory_before path first from n) at.process (whose_at path (from + n)))) led
    ∙ ap (why_next points limit n (memory_before path first from n) p.process) whose

pub reason_is : (points : List (Option Point)) (limit count hart : ℕ) (m : Moment) → m.turn ≡ hart
    → reason points limit count m ≡ shape (is_some m.process.ending) (watch_of points m.was m.process) (is_live hart m.process) (break_at points (hart_registers hart m.process)) (count == limit)
reason_is points limit count hart m e =
    ap (λ (h : ℕ). shape (is_some m.process.ending) (watch_of points m.was m.process) (is_live h m.process) (break_at points (hart_registers h m.process)) (count == limit)) e

-- what a turn was taken of, and how it went
pub record Turned (points : List (Option Point)) (path : List Stretch) (first : Place) (from limit taken hart most steps : ℕ) (at : Place) (now : Moment) : Type 0 where
  pub passed : Passed points path first from limit taken at.process
  pub led : along path (from + taken) first ≡ Some at
  pub whose : (i : ℕ) → i < steps → whose_at path (from + taken + i) ≡ Some (Hart hart)
  pub passes : Passes (λ limit. ⊥) points most steps (lone_moment at.process hart) now
  pub within : taken + most ≤ limit

module _ (points : List (Option Point)) (path : List Stretch) (first : Place) (from limit taken hart most steps : ℕ) (at : Place) (now : Moment) (turned : Turned points path first from limit taken hart most steps at now) where
  -- the memory before, after a step of the turn
  was_in : (k : ℕ) (m : Moment) → moment_after (suc k) (lone_moment at.process hart) ≡ Some m → suc k ≤ steps → memory_before path first from (taken + suc k) ≡ m.was
  was_in k m e few =
      let before = before_next k (lone_moment at.process hart) m e in
      let here = in_turn path first (from + taken) hart steps k at before.0 turned.whose turned.led before.1.0 (omega (arith, few)) in
      let same : from + (taken + k) ≡ from + taken + k = omega arith in
      let more : taken + suc k ≡ suc (taken + k) = omega arith in
      ap (memory_before path first from) more ∙ ap (λ n. memory_of (along path n first)) same ∙ ap memory_of here.led ∙ sym (next_was before.0 m before.1.1)

  unhit_first : (t : ℕ) (m : Moment) → taken ≡ t → lone_moment at.process hart ≡ m → watch_of points (memory_before path first from t) m.process ≡ None
  unhit_first zero m is same = nothing_hit points m.process
  unhit_first (suc t) m is same =
      ap (λ (x : Moment). watch_of points (memory_before path first from (suc t)) x.process) (sym same)
      ∙ ap (λ n. watch_of points (memory_before path first from n) at.process) (sym is) ∙ (turned.passed.quiet (omega (arith, is))).1

  unhit_in : (j : ℕ) (m : Moment) → moment_after j (lone_moment at.process hart) ≡ Some m → j ≤ steps → watch_of points m.was m.process ≡ None → watch_of points (memory_before path first from (taken + j)) m.process ≡ None
  unhit_in zero m e few none =
      let same : taken + 0 ≡ taken = omega arith in
      ap (λ n. watch_of points (memory_before path first from n) m.process) same ∙ unhit_first taken m refl (none_done (lone_moment at.process hart) m e)
  unhit_in (suc k) m e few none = ap (λ w. watch_of points w m.process) (was_in k m e few) ∙ none

  -- no reason in the turn
  calm_in : (j : ℕ) (m : Moment) → moment_after j (lone_moment at.process hart) ≡ Some m → j < steps → reason points most j m ≡ None → stops_by points path first from limit (taken + j) ≡ None
  calm_in j m e h none =
      let here = in_turn path first (from + taken) hart steps j at m turned.whose turned.led e (omega (arith, h)) in
      let same : from + (taken + j) ≡ from + taken + j = omega arith in
      let within = turned.within in
      let few = turned.passes.within in
      let calm_there = sym (reason_is points most j hart m here.turn) ∙ none in
      let less : ¬ (taken + j ≡ limit) = λ is. omega (arith, within, few, h, is) in
      stops_here points path first from limit (taken + j) (place_left j hart at.turn m) (Some (Hart hart)) (ap (λ n. along path n first) same ∙ here.led) (ap (whose_at path) same ∙ turned.whose j h)
      ∙ calm (is_some m.process.ending) (watch_of points m.was m.process) (is_live hart m.process) (break_at points (hart_registers hart m.process)) (j == most)
      (watch_of points (memory_before path first from (taken + j)) m.process) (taken + j == limit) calm_there
      (unhit_in j m e (omega (arith, h)) (unhit (is_some m.process.ending) (watch_of points m.was m.process) (is_live hart m.process) (break_at points (hart_registers hart m.process)) (j == most) calm_there))
      (unequal (taken + j) limit less)

  before_in : (j : ℕ) → j < steps → stops_by points path first from limit (taken + j) ≡ None
  before_in j h =
      let all : j + (steps - j) ≡ steps = omega (arith, h) in
      let m = there j (steps - j) (lone_moment at.process hart) now (ap (λ n. moment_after n (lone_moment at.process hart)) all ∙ turned.passes.reached) in
      calm_in j m.0 m.1 h (subst (λ o. IfSome o (λ now. (reason points most j now ≡ None) × (¬ IsFullAt (λ limit. ⊥) j (lone_moment at.process hart) now))) m.1 (turned.passes.before j h)).0

  pub before_all : (i : ℕ) → i < taken + steps → stops_by points path first from limit i ≡ None
  before_all i h = elim (cases_lt i taken) [
    | inl below ↦ turned.passed.before i below
    | inr above ↦ (let is : taken + (i - taken) ≡ i = omega (arith, above) in ap (stops_by points path first from limit) (sym is) ∙ before_in (i - taken) (omega (arith, above, h)))
  ]

  at_now : InTurn path first (from + taken) hart steps at now
  at_now = in_turn path first (from + taken) hart steps steps at now turned.whose turned.led turned.passes.reached (omega arith)

  led_now : along path (from + (taken + steps)) first ≡ Some (place_left steps hart at.turn now)
  led_now = let same : from + (taken + steps) ≡ from + taken + steps = omega arith in ap (λ n. along path n first) same ∙ at_now.led

  shaped : (why : Why) → reason points most steps now ≡ Some why
      → shape (is_some now.process.ending) (watch_of points now.was now.process) (is_live hart now.process) (break_at points (hart_registers hart now.process)) (steps == most) ≡ Some why
  shaped why e = sym (reason_is points most steps hart now at_now.turn) ∙ e

  -- the turn ends, and the record goes on
  pub passed_turn : (why : Why) → reason points most steps now ≡ Some why → EndsTurn why → Passed points path first from limit (taken + steps) now.process
  passed_turn why e ends =
      let is = quiet (is_some now.process.ending) (watch_of points now.was now.process) (is_live hart now.process) (break_at points (hart_registers hart now.process)) (steps == most) why (shaped why e) ends in
      record { before = before_all; quiet = λ some. (is.0, unhit_in steps now turned.passes.reached (omega arith) is.1) }

  pub stops_ended : reason points most steps now ≡ Some Ended → stops_by points path first from limit (taken + steps) ≡ Some Ended
  stops_ended e =
      stops_here points path first from limit (taken + steps) (place_left steps hart at.turn now) (whose_at path (from + (taken + steps))) led_now refl
      ∙ next_ended points limit (taken + steps) (memory_before path first from (taken + steps)) now.process (whose_at path (from + (taken + steps)))
      (has_ended (is_some now.process.ending) (watch_of points now.was now.process) (is_live hart now.process) (break_at points (hart_registers hart now.process)) (steps == most) (shaped Ended e))

  hit_was : (n k : ℕ) (m : Moment) → moment_after k (lone_moment at.process hart) ≡ Some m → k ≤ steps → watch_of points m.was m.process ≡ Some n → watch_of points (memory_before path first from (taken + k)) m.process ≡ Some n
  hit_was n zero m e few hit =
      absurd (none-some n (sym (nothing_hit points m.process) ∙ ap (λ (x : Moment). watch_of points x.was m.process) (none_done (lone_moment at.process hart) m e) ∙ hit))
  hit_was n (suc k) m e few hit = ap (λ w. watch_of points w m.process) (was_in k m e few) ∙ hit

  pub stops_hit : (n : ℕ) → reason points most steps now ≡ Some (Watch n) → stops_by points path first from limit (taken + steps) ≡ Some (Watch n)
  stops_hit n e =
      let is = has_hit (is_some now.process.ending) (watch_of points now.was now.process) (is_live hart now.process) (break_at points (hart_registers hart now.process)) (steps == most) n (shaped (Watch n) e) in
      stops_here points path first from limit (taken + steps) (place_left steps hart at.turn now) (whose_at path (from + (taken + steps))) led_now refl
      ∙ next_hit points limit (taken + steps) (memory_before path first from (taken + steps)) now.process (whose_at path (from + (taken + steps))) n is.0
      (hit_was n steps now turned.passes.reached (omega arith) is.1)

  -- before the turn ends
  pub stops_in : (why : Why) → reason points most steps now ≡ Some why → EndsTurn why → whose_at path (from + taken + steps) ≡ Some (Hart hart) → (steps == most) ≡ (taken + steps == limit)
      → stops_by points path first from limit (taken + steps) ≡ Some why
  stops_in why e ends whose same =
      let place : from + (taken + steps) ≡ from + taken + steps = omega arith in
      let is = quiet (is_some now.process.ending) (watch_of points now.was now.process) (is_live hart now.process) (break_at points (hart_registers hart now.process)) (steps == most) why (shaped why e) ends in
      stops_here points path first from limit (taken + steps) (place_left steps hart at.turn now) (Some (Hart hart)) led_now (ap (whose_at path) place ∙ whose)
      ∙ ap (λ b. shape (is_some now.process.ending) (watch_of points (memory_before path first from (taken + steps)) now.process) (is_live hart now.process) (break_at points (hart_registers hart now.process)) b) (sym same)
      ∙ same_reason (is_some now.process.ending) (watch_of points now.was now.process) (is_live hart now.process) (break_at points (hart_registers hart now.process)) (steps == most)
      (watch_of points (memory_before path first from (taken + steps)) now.process) why (shaped why e) ends (unhit_in steps now turned.passes.reached (omega arith) is.1)

-- ---- a turn of a debugger

unseen_none : (one : Option Point) (why : TargetFault) → CannotSee (λ limit. ⊥) one why → ⊥
unseen_none None why seen = seen
unseen_none (Some (point.Break address)) why seen = seen
unseen_none (Some (point.Watch address count)) why seen = seen

-- on flat memory there is a reason wherever a debugger stops
pub reason_at : (full : Type 0) (why : Why) (points : List (Option Point)) (limit count : ℕ) (now : Moment) (process : Process) → (full → ⊥) → StopsFor shows lacks full why points limit count now process → reason points limit count now ≡ Some why
reason_at full Ended points limit count now process room s = elim s [ inl h ↦ h.1 | inr h ↦ absurd (room h.1.1) ]
reason_at full (Watch number) points limit count now process room s = s.1
reason_at full Gone points limit count now process room s = s.1
reason_at full (Break number) points limit count now process room s = s.1
reason_at full stop.Limit points limit count now process room s = s.1
reason_at full Absent points limit count now process room s =
    elim s.1 [ inl lacking ↦ elim lacking.1.1.1.1 [ ] | inr unread ↦ absurd (unseen_none (point_at points unread.1.number) unread.1.why unread.1.unseen) ]

equal : (a b c d : ℕ) → (a ≡ b → c ≡ d) → (c ≡ d → a ≡ b) → (a == b) ≡ (c == d)
equal a b c d forth back = elim (eqb_tells a b) [
  | inl same ↦ elim (eqb_tells c d) [ inl too ↦ same.0 ∙ sym too.0 | inr differ ↦ absurd (differ.1 (forth same.1)) ]
  | inr differ ↦ elim (eqb_tells c d) [ inl too ↦ absurd (differ.1 (back too.1)) | inr either ↦ differ.0 ∙ sym either.0 ]
]

module _ (old new : History) (first : Place) (from limit taken left : ℕ) (stretch : Stretch) (why : Why) (steps : ℕ) (points : List (Option Point)) (path : List Stretch) (stands : Stands old) (next : IsNext old.path old.done stretch)
    (gone : GoesTurn stretch left old why steps new) (begins : first ≡ beginning old.program) (points_are : old.debugger.points ≡ points) (path_is : old.path.stretches.items ≡ path) (done_is : old.done ≡ from + taken) (limit_is : taken + left ≡ limit)
    (passed : Passed points path first from limit taken old.debugger.target) where
  turned : Turned points path first from limit taken gone.hart gone.most steps (place_of old.debugger) gone.stops.now
  turned = record {
    passed = passed;
    led = subst (λ n. along path n first ≡ Some (place_of old.debugger)) done_is (subst (λ l. along l old.done first ≡ Some (place_of old.debugger)) path_is (subst (λ f. along old.path.stretches.items old.done f ≡ Some (place_of old.debugger)) (sym begins) stands.led));
    whose = λ i h. (let some = gone.stops.passes.within in let less = gone.few in
        ap (λ n. whose_at path (n + i)) (sym done_is) ∙ ap (λ l. whose_at l (old.done + i)) (sym path_is) ∙ next.next i (omega (arith, h, some, less)) ∙ ap Some gone.whose_is);
    passes = subst (λ p. Passes (λ limit. ⊥) p gone.most steps (lone_moment old.debugger.target gone.hart) gone.stops.now) points_are gone.stops.passes;
    within = (let less = gone.within in omega (arith, less, limit_is));
  }

  why_now : reason points gone.most steps gone.stops.now ≡ Some why
  why_now = subst (λ p. reason p gone.most steps gone.stops.now ≡ Some why) points_are
      (reason_at ⊥ why old.debugger.points gone.most steps gone.stops.now new.debugger.target (λ full. full) gone.stops.stops)

  process_is : new.debugger.target ≡ gone.stops.now.process
  process_is = stopped_at ⊥ why old.debugger.points gone.most steps gone.stops.now new.debugger.target (λ full. full) gone.stops.stops

  -- the record goes on
  pub goes_on : EndsTurn why → Passed points path first from limit (taken + steps) new.debugger.target
  goes_on ends = subst (Passed points path first from limit (taken + steps)) (sym process_is) (passed_turn points path first from limit taken gone.hart gone.most steps (place_of old.debugger) gone.stops.now turned why why_now ends)

  pub none_before : (i : ℕ) → i < taken + steps → stops_by points path first from limit i ≡ None
  none_before = before_all points path first from limit taken gone.hart gone.most steps (place_of old.debugger) gone.stops.now turned

  -- it stops
  pub stops_there : (EndsTurn why → steps < stretch.count) → stops_by points path first from limit (taken + steps) ≡ Some why
  stops_there within = by_why why refl
    where
      ended : (one : Why) → why ≡ one → reason points gone.most steps gone.stops.now ≡ Some one
      ended one is = why_now ∙ ap Some is

      inside : (one : Why) → why ≡ one → EndsTurn one → stops_by points path first from limit (taken + steps) ≡ Some one
      inside one is ends =
          let less = within (subst EndsTurn (sym is) ends) in
          stops_in points path first from limit taken gone.hart gone.most steps (place_of old.debugger) gone.stops.now turned one (ended one is) ends
          (ap (λ n. whose_at path (n + steps)) (sym done_is) ∙ ap (λ l. whose_at l (old.done + steps)) (sym path_is) ∙ next.next steps less ∙ ap Some gone.whose_is)
          (equal steps gone.most (taken + steps) limit (λ same. let all = gone.all (omega (arith, same, less)) in omega (arith, same, all, limit_is)) (λ same. let some = gone.stops.passes.within in let most = gone.within in omega (arith, same, some, most, limit_is)))

      by_why : (one : Why) → why ≡ one → stops_by points path first from limit (taken + steps) ≡ Some why
      by_why Ended is = stops_ended points path first from limit taken gone.hart gone.most steps (place_of old.debugger) gone.stops.now turned (ended Ended is) ∙ ap Some (sym is)
      by_why (Watch n) is = stops_hit points path first from limit taken gone.hart gone.most steps (place_of old.debugger) gone.stops.now turned n (ended (Watch n) is) ∙ ap Some (sym is)
      by_why Gone is = inside Gone is tt ∙ ap Some (sym is)
      by_why (Break n) is = inside (Break n) is tt ∙ ap Some (sym is)
      by_why stop.Limit is = inside stop.Limit is tt ∙ ap Some (sym is)
      by_why Absent is = absurd (none_absent (is_some gone.stops.now.process.ending) (watch_of points gone.stops.now.was gone.stops.now.process) (is_live gone.stops.now.turn gone.stops.now.process)
          (break_at points (hart_registers gone.stops.now.turn gone.stops.now.process)) (steps == gone.most) (ended Absent is))

-- ---- the end of the record

past_end : (path : List Stretch) (i : ℕ) → steps_of path ≤ i → whose_at path i ≡ None
unfolding steps_of whose_at
past_end [] i all = refl
past_end (stretch ∷ path) i all = whose_past stretch path i (omega (arith, all)) ∙ past_end path (i - stretch.count) (omega (arith, all))

abbrev end_shape : Bool → Option ℕ → Bool → Option Why
end_shape ended hit last = if ended then Some Ended else option_or (option_map Watch hit) (if last then Some stop.Limit else None)

abbrev last_shape : Bool → Bool → Option Why
last_shape ended last = if ended then Some Ended else (if last then Some stop.Limit else None)

agree : (ended : Bool) (hit : Option ℕ) (last other : Bool) → (ended ≡ false → hit ≡ None) → last ≡ other → end_shape ended hit last ≡ last_shape ended other
agree true hit last other none same = refl
agree false hit last other none same = ap (λ o. end_shape false o last) (none refl) ∙ ap (λ b. last_shape false b) same

pub at_end_of : (points : List (Option Point)) (path : List Stretch) (first at : Place) (from limit taken left : ℕ) → Passed points path first from limit taken at.process → along path (from + taken) first ≡ Some at → steps_of path ≤ from + taken
    → taken + left ≡ limit → stops_by points path first from limit taken ≡ why_last at.process left
at_end_of points path first at from limit taken left passed led all is =
    stops_here points path first from limit taken at None led (past_end path (from + taken) all)
    ∙ agree (is_some at.process.ending) (watch_of points (memory_before path first from taken) at.process) (taken == limit) (left == 0) (λ alive. by_taken taken refl)
    (equal taken limit left 0 (λ same. omega (arith, same, is)) (λ same. omega (arith, same, is)))
  where
    by_taken : (t : ℕ) → taken ≡ t → watch_of points (memory_before path first from taken) at.process ≡ None
    by_taken zero e = ap (λ n. watch_of points (memory_before path first from n) at.process) e ∙ nothing_hit points at.process
    by_taken (suc t) e = (passed.quiet (omega (arith, e))).1

pub led_by : (old now : History) (taken : ℕ) → Stands now → now.path ≡ old.path → now.program ≡ old.program → now.done ≡ old.done + taken → along old.path.stretches.items (old.done + taken) (beginning old.program) ≡ Some (place_of now.debugger)
led_by old now taken stands path program done =
    ap (λ (p : Path). along p.stretches.items (old.done + taken) (beginning old.program)) (sym path) ∙ ap (λ (p : Program). along now.path.stretches.items (old.done + taken) (beginning p)) (sym program)
    ∙ ap (λ n. along now.path.stretches.items n (beginning now.program)) (sym done) ∙ stands.led
