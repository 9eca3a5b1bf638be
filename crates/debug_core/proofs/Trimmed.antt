-- Points of which the last ones are none count as those before them.
use Rattle.std.proofs.Common.{◌≡◌, ℕ, zero, suc, ◌+◌, ◌≤◌, ◌==◌, Bool, false, List, [], ◌∷◌, length, take, Option, Some, None, IfSome, IfOk, OnErr, Ok, Err, is_some, option_map, inl, inr, refl, sym, ap, ◌∙◌, ◌-◌, subst, arith}
use Rattle.std.specs.Prelude.{◌⊎◌, if◌then◌else◌, Result}
use Rattle.std.specs.Option.{option_or}
use Rattle.std.proofs.lemmas.Bool.Decides.{leb_tells}
use Rattle.std.specs.List.{position_from}
use Rattle.rv_exec.specs.Registers.{Registers}
use Rattle.flat_machine.specs.Process.{Process, hart_registers, is_live}
use Rattle.debug_core.specs.Points.{point_at, is_break_at, is_hit, ArePoints, IsPoint}
use Rattle.debug_core.specs.Limits.{Limit}
use Rattle.debug_core.specs.Seen.{CannotSee, IsUnread}
use Rattle.debug_core.specs.Stops.{break_at, moment_after, reason, reason_before, watch_hit, IsFullAt, Moment, Passes, Stops, StopsFor, WantsAfter}
use Rattle.debug_core.specs.declared.point.Point.{Point}
use Rattle.debug_core.specs.declared.point.Why.{Why}
use Rattle.debug_core.specs.declared.point.Why.TheVariants.{Ended, Watch, Gone, Break, Limit as Limited, Absent}
use Rattle.debug_core.specs.declared.target.TargetFault.{TargetFault}
use Rattle.page_memory.specs.Memory.{Memory}

none_behind : (test : Option Point → Bool) → test None ≡ false → (n : ℕ) (points : List (Option Point)) → ((number : ℕ) → point_at points number ≡ None) → position_from test n points ≡ None
none_behind test unset n [] none = refl
none_behind test unset n (point ∷ points) none =
    ap (λ p. if test p then Some n else position_from test (n + 1) points) (none 0) ∙ ap (λ b. if b then Some n else position_from test (n + 1) points) unset
    ∙ none_behind test unset (n + 1) points (λ number. none (suc number))

position_trimmed : (test : Option Point → Bool) → test None ≡ false → (used n : ℕ) (points : List (Option Point)) → ((number : ℕ) → used ≤ number → point_at points number ≡ None)
    → position_from test n (take used points) ≡ position_from test n points
position_trimmed test unset zero n [] none = refl
position_trimmed test unset (suc used) n [] none = refl
position_trimmed test unset zero n (point ∷ points) none = sym (none_behind test unset n (point ∷ points) (λ number. none number (omega arith)))
position_trimmed test unset (suc used) n (point ∷ points) none =
    ap (λ o. if test point then Some n else o) (position_trimmed test unset used (n + 1) points (λ number behind. none (suc number) (omega (arith, behind))))

-- what stands among the first points
taken_at : (used number : ℕ) (points : List (Option Point)) → (point_at (take used points) number ≡ point_at points number) ⊎ (point_at (take used points) number ≡ None)
taken_at zero number points = inr refl
taken_at (suc used) number [] = inr refl
taken_at (suc used) zero (point ∷ points) = inl refl
taken_at (suc used) (suc number) (point ∷ points) = taken_at used number points

-- what stands below a point that is among them is among them
taken_below : (used number lower : ℕ) (points : List (Option Point)) (point : Point) → lower ≤ number → point_at (take used points) number ≡ Some point → point_at (take used points) lower ≡ point_at points lower
taken_below zero number lower points point below at = cc
taken_below (suc used) number lower [] point below at = refl
taken_below (suc used) number zero (first ∷ points) point below at = refl
taken_below (suc used) zero (suc lower) (first ∷ points) point below at = absurd (omega (arith, below))
taken_below (suc used) (suc number) (suc lower) (first ∷ points) point below at = taken_below used number lower points point (omega (arith, below)) at

-- bytes that can't be read are those of a point
seen_point : (limits : Limit → Type 0) (point : Option Point) (why : TargetFault) → CannotSee limits point why → (there : Point) × (point ≡ Some there)
seen_point limits None why unseen = absurd unseen
seen_point limits (Some there) why unseen = (there, refl)

pub points_trimmed : (used : ℕ) (points : List (Option Point)) → ArePoints points → ArePoints (take used points)
points_trimmed used points are number =
    elim (taken_at used number points) [
      | inl same ↦ subst IsPoint (sym same) (are number)
      | inr none ↦ subst IsPoint (sym none) (tt {0})
    ]

if_some : {A : Type 0} (o : Option A) (P Q : A → Type 0) → ((x : A) → P x → Q x) → IfSome o P → IfSome o Q
if_some None P Q to p = p
if_some (Some x) P Q to p = to x p

module _ (used : ℕ) (points : List (Option Point)) (none : (number : ℕ) → used ≤ number → point_at points number ≡ None) where
  break_trimmed : (registers : Option Registers) → break_at (take used points) registers ≡ break_at points registers
  break_trimmed None = refl
  break_trimmed (Some registers) = position_trimmed (is_break_at registers.pc) refl used 0 points none

  reason_trimmed : (limit count : ℕ) (now : Moment) → reason (take used points) limit count now ≡ reason points limit count now
  reason_trimmed limit count now =
      ap (λ hit. if is_some now.process.ending then Some Ended else option_or (option_map Watch hit)
      (if is_live now.turn now.process then reason_before (take used points) limit count now else Some Gone))
      (position_trimmed (is_hit now.was now.process.memory) refl used 0 points none)
      ∙ ap (λ met. if is_some now.process.ending then Some Ended else option_or (option_map Watch (watch_hit points now))
      (if is_live now.turn now.process then option_or (option_map Break met) (if count == limit then Some Limited else None) else Some Gone))
      (break_trimmed (hart_registers now.turn now.process))

  passes_trimmed : (limits : Limit → Type 0) (limit count : ℕ) (first now : Moment) → Passes limits (take used points) limit count first now → Passes limits points limit count first now
  passes_trimmed limits limit count first now passes = record {
    reached = passes.reached;
    within = passes.within;
    before = λ earlier below.
        if_some (moment_after earlier first) (λ at. (reason (take used points) limit earlier at ≡ None) × (¬ IsFullAt limits earlier first at))
        (λ at. (reason points limit earlier at ≡ None) × (¬ IsFullAt limits earlier first at))
        (λ at e. (sym (reason_trimmed limit earlier at) ∙ e.0, e.1)) (passes.before earlier below);
  }

  module _ {T : Type 0} (shown : T → Process) (limits : T → Limit → Type 0) where
    unread_trimmed : (was : Memory) (process : Process) → IsUnread shown limits (take used points) was process → IsUnread shown limits points was process
    unread_trimmed was process unread =
        let point = seen_point (limits unread.at) (point_at (take used points) unread.number) unread.why unread.unseen in
        record {
          number = unread.number;
          at = unread.at;
          why = unread.why;
          shows = unread.shows;
          unseen = subst (λ p. CannotSee (limits unread.at) p unread.why) (taken_below used unread.number unread.number points point.0 (omega arith) point.1) unread.unseen;
          before = λ lower below.
              subst (λ p. is_hit was process.memory p ≡ false) (taken_below used unread.number lower points point.0 (omega (arith, below)) point.1) (unread.before lower below);
        }

    stops_for : (full : Type 0) (why : Why) (limit count : ℕ) (now : Moment) (process : Process) → StopsFor shown limits full why (take used points) limit count now process
        → StopsFor shown limits full why points limit count now process
    stops_for full Ended limit count now process stops =
        elim stops [
          | inl ended ↦ inl (ended.0, sym (reason_trimmed limit count now) ∙ ended.1)
          | inr ran_out ↦ inr (ran_out.0, (sym (reason_trimmed limit count now) ∙ ran_out.1.0, ran_out.1.1))
        ]
    stops_for full (Watch number) limit count now process stops = (stops.0, sym (reason_trimmed limit count now) ∙ stops.1)
    stops_for full Gone limit count now process stops = (stops.0, sym (reason_trimmed limit count now) ∙ stops.1)
    stops_for full (Break number) limit count now process stops = (stops.0, sym (reason_trimmed limit count now) ∙ stops.1)
    stops_for full Limited limit count now process stops = (stops.0, sym (reason_trimmed limit count now) ∙ stops.1)
    stops_for full Absent limit count now process stops = (
      stops.0,
      elim stops.1 [
        | inl lacking ↦ inl (sym (reason_trimmed limit count now) ∙ lacking.0, lacking.1)
        | inr unread ↦ inr (unread.0, unread_trimmed now.was now.process unread.1)
      ],
    )

    stops_trimmed : (target : T) (limit : ℕ) (why : Why) (count : ℕ) (first : Moment) (turn : ℕ) (process : Process) → Stops shown limits target (take used points) limit why count first turn process
        → Stops shown limits target points limit why count first turn process
    stops_trimmed target limit why count first turn process stops = record {
      now = stops.now;
      passes = passes_trimmed (limits target) limit count first stops.now stops.passes;
      stops = stops_for (IsFullAt (limits target) count first stops.now) why limit count stops.now process stops.stops;
      turn_is = stops.turn_is;
    }

    wants_trimmed : (target : T) (limit count : ℕ) (first : Moment) (turn : ℕ) (process : Process) → WantsAfter limits target (take used points) limit count first turn process
        → WantsAfter limits target points limit count first turn process
    wants_trimmed target limit count first turn process wants = record {
      now = wants.now;
      passes = passes_trimmed (limits target) limit count first wants.now wants.passes;
      none = sym (reason_trimmed limit count wants.now) ∙ wants.none;
      recordable = wants.recordable;
      process_is = wants.process_is;
      turn_is = wants.turn_is;
    }

    pub stops_answered : (target : T) (limit count : ℕ) (first : Moment) (turn : ℕ) (process : Process) {E : Type 0} (answer : Result Why E)
        → IfOk answer (λ why. Stops shown limits target (take used points) limit why count first turn process) → IfOk answer (λ why. Stops shown limits target points limit why count first turn process)
    stops_answered target limit count first turn process (Ok why) stops = stops_trimmed target limit why count first turn process stops
    stops_answered target limit count first turn process (Err error) stops = stops

    pub wants_answered : (target : T) (limit count : ℕ) (first : Moment) (turn : ℕ) (process : Process) {E : Type 0} (answer : Result Why E)
        → OnErr answer (WantsAfter limits target (take used points) limit count first turn process) → OnErr answer (WantsAfter limits target points limit count first turn process)
    wants_answered target limit count first turn process (Ok why) wants = wants
    wants_answered target limit count first turn process (Err error) wants = wants_trimmed target limit count first turn process wants

-- ---- counting the points in use

pub none_past : (points : List (Option Point)) (number : ℕ) → length points ≤ number → point_at points number ≡ None
none_past [] number past = refl
none_past (point ∷ points) zero past = absurd (omega (arith, past))
none_past (point ∷ points) (suc number) past = none_past points number (omega (arith, past))

pub none_more : (points : List (Option Point)) (used number : ℕ) → ((n : ℕ) → used ≤ n → point_at points n ≡ None) → point_at points (used - 1) ≡ None → used - 1 ≤ number → point_at points number ≡ None
none_more points used number none here at =
    elim (leb_tells used number) [
      | inl behind ↦ none number behind.1
      | inr before ↦ let same : number ≡ used - 1 = let b = before.1 in omega (arith, b, at) in ap (point_at points) same ∙ here
    ]
