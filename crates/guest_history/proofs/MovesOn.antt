-- Steps of a debugger on flat memory are steps of a path.
use Rattle.std.proofs.Common.{◌≡◌, ℕ, zero, suc, ◌+◌, ◌<◌, ◌≤◌, true, false, List, [], ◌∷◌, inl, inr, Option, Some, None, option_map, option_and_then, unwrap_or, refl, sym, ap, ◌∙◌, arith}
use Rattle.std.proofs.lemmas.Option.{none-some}
use Rattle.flat_machine.specs.ByTurns.{turn_after}
use Rattle.flat_machine.specs.Process.{Process, flat_step}
use Rattle.debug_core.specs.Debugging.{DebuggerValue, first_moment, lone_moment, turn_left}
use Rattle.debug_core.specs.Stops.{Moment, Stops, StopsFor, moment_after, next_moment, turn_next}
use Rattle.debug_core.specs.declared.point.Point.{Point}
use Rattle.debug_core.specs.declared.point.Why.{Why}
use Rattle.debug_core.specs.declared.point.Why.TheVariants.{Ended, Watch, Gone, Break, Absent}
use Rattle.debug_core.specs.declared.point.Why.TheVariants as stop
use Rattle.run_paths.specs.declared.path.Whose.TheVariants.{ByTurns, Hart}
use Rattle.run_paths.specs.declared.path.Stretch.{Stretch}
use Rattle.run_paths.specs.declared.running.Place.{Place}
use Rattle.guest_history.specs.Going.{lacks, shows}
use Rattle.guest_history.specs.Histories.{place_of}
use Rattle.run_paths.specs.Paths.{along, step_by, whose_at}
use Rattle.run_paths.proofs.Along.{along_none, along_more, whose_here}

pub stopped_at : (full : Type 0) (why : Why) (points : List (Option Point)) (limit count : ℕ) (now : Moment) (process : Process) → (full → ⊥) → StopsFor shows lacks full why points limit count now process → process ≡ now.process
stopped_at full Ended points limit count now process room s = elim s [ inl h ↦ h.0 | inr h ↦ absurd (room h.1.1) ]
stopped_at full (Watch number) points limit count now process room s = s.0
stopped_at full Gone points limit count now process room s = s.0
stopped_at full (Break number) points limit count now process room s = s.0
stopped_at full stop.Limit points limit count now process room s = s.0
stopped_at full Absent points limit count now process room s = s.0

pub some_moment : (a b : Moment) → ◌≡◌ {A = Option Moment} (Some a) (Some b) → a ≡ b
some_moment a b e = ap (λ (o : Option Moment). unwrap_or o a) e

-- ---- by turns

abbrev pub place_at : Moment → Place
place_at now = record { turn = now.turn; process = now.process }

next_by_turns : (path : List Stretch) (n : ℕ) (first m now : Moment) → m.alone ≡ false → along path n (place_at first) ≡ Some (place_at m) → whose_at path n ≡ Some ByTurns → next_moment m ≡ Some now
    → (now.alone ≡ false) × (along path (suc n) (place_at first) ≡ Some (place_at now))
next_by_turns path n first m now alone led whose e = by_step (flat_step m.turn m.process) refl e
  where
    by_step : (o : Option Process) → flat_step m.turn m.process ≡ o → option_map (λ next. record { process = next; turn = turn_next m.alone m.turn next; was = m.process.memory; alone = m.alone }) o ≡ Some now
        → (now.alone ≡ false) × (along path (suc n) (place_at first) ≡ Some (place_at now))
    by_step None is f = absurd (none-some now f)
    by_step (Some next) is f =
        let made : Moment = record { process = next; turn = turn_next m.alone m.turn next; was = m.process.memory; alone = m.alone } in
        let same = some_moment made now f in
        let more : suc n ≡ n + 1 = omega arith in (
          ap (λ (x : Moment). x.alone) (sym same) ∙ alone,
          ap (λ k. along path k (place_at first)) more ∙ along_more path n (place_at first) (place_at m) led ∙ ap (λ w. step_by w (place_at m)) whose
              ∙ ap (option_map (λ (p : Process). record { turn = turn_after m.turn p; process = p })) is
              ∙ ap (λ b. Some (record { turn = turn_next b m.turn next; process = next })) (sym alone) ∙ ap (λ (x : Moment). Some (place_at x)) same,
        )

pub before_next : (n : ℕ) (first now : Moment) → moment_after (suc n) first ≡ Some now → (m : Moment) × ((moment_after n first ≡ Some m) × (next_moment m ≡ Some now))
unfolding moment_after
before_next n first now e = by_before (moment_after n first) refl e
  where
    by_before : (o : Option Moment) → moment_after n first ≡ o → option_and_then next_moment o ≡ Some now → (m : Moment) × ((moment_after n first ≡ Some m) × (next_moment m ≡ Some now))
    by_before None is f = absurd (none-some now f)
    by_before (Some m) is f = (m, (is, f))

pub none_done : (first now : Moment) → moment_after 0 first ≡ Some now → first ≡ now
unfolding moment_after
none_done first now e = some_moment first now e

by_turns_to : (path : List Stretch) (n : ℕ) (first now : Moment) → first.alone ≡ false → ((i : ℕ) → i < n → whose_at path i ≡ Some ByTurns) → moment_after n first ≡ Some now
    → (now.alone ≡ false) × (along path n (place_at first) ≡ Some (place_at now))
by_turns_to path zero first now alone all e =
    let same = none_done first now e in
    (ap (λ (m : Moment). m.alone) (sym same) ∙ alone, along_none path (place_at first) ∙ ap (λ (m : Moment). Some (place_at m)) same)
by_turns_to path (suc n) first now alone all e =
    let before = before_next n first now e in
    let m = before.0 in
    let so_far = by_turns_to path n first m alone (λ i h. all i (omega (arith, h))) before.1.0 in
    next_by_turns path n first m now so_far.0 so_far.1 (all n (omega arith)) before.1.1

-- ---- one hart

abbrev pub place_left : ℕ → ℕ → ℕ → Moment → Place
place_left n hart turn now = record { turn = turn_left n hart turn now.process; process = now.process }

next_alone : (path : List Stretch) (n hart turn : ℕ) (first m now : Moment) → (m.alone ≡ true) × (m.turn ≡ hart) → along path n (record { turn = turn; process = first.process }) ≡ Some (place_left n hart turn m)
    → whose_at path n ≡ Some (Hart hart) → next_moment m ≡ Some now
    → ((now.alone ≡ true) × (now.turn ≡ hart)) × (along path (suc n) (record { turn = turn; process = first.process }) ≡ Some (place_left (suc n) hart turn now))
next_alone path n hart turn first m now alone led whose e = by_step (flat_step m.turn m.process) refl e
  where
    by_step : (o : Option Process) → flat_step m.turn m.process ≡ o → option_map (λ next. record { process = next; turn = turn_next m.alone m.turn next; was = m.process.memory; alone = m.alone }) o ≡ Some now
        → ((now.alone ≡ true) × (now.turn ≡ hart)) × (along path (suc n) (record { turn = turn; process = first.process }) ≡ Some (place_left (suc n) hart turn now))
    by_step None is f = absurd (none-some now f)
    by_step (Some next) is f =
        let made : Moment = record { process = next; turn = turn_next m.alone m.turn next; was = m.process.memory; alone = m.alone } in
        let same = some_moment made now f in
        let more : suc n ≡ n + 1 = omega arith in
        let step : flat_step hart m.process ≡ Some next = ap (λ h. flat_step h m.process) (sym alone.1) ∙ is in (
          (ap (λ (x : Moment). x.alone) (sym same) ∙ alone.0, ap (λ (x : Moment). x.turn) (sym same) ∙ ap (λ b. turn_next b m.turn next) alone.0 ∙ alone.1),
          ap (λ k. along path k (record { turn = turn; process = first.process })) more ∙ along_more path n (record { turn = turn; process = first.process }) (place_left n hart turn m) led
              ∙ ap (λ w. step_by w (place_left n hart turn m)) whose
              ∙ ap (option_map (λ (p : Process). record { turn = turn_after hart p; process = p })) step
              ∙ ap (λ (x : Moment). Some (record { turn = turn_after hart x.process; process = x.process })) same,
        )

pub alone_to : (path : List Stretch) (n hart turn : ℕ) (first now : Moment) → (first.alone ≡ true) × (first.turn ≡ hart) → ((i : ℕ) → i < n → whose_at path i ≡ Some (Hart hart)) → moment_after n first ≡ Some now
    → ((now.alone ≡ true) × (now.turn ≡ hart)) × (along path n (record { turn = turn; process = first.process }) ≡ Some (place_left n hart turn now))
alone_to path zero hart turn first now alone all e =
    let same = none_done first now e in (
      (ap (λ (m : Moment). m.alone) (sym same) ∙ alone.0, ap (λ (m : Moment). m.turn) (sym same) ∙ alone.1),
      along_none path (record { turn = turn; process = first.process }) ∙ ap (λ (m : Moment). Some (record { turn = turn; process = m.process })) same,
    )
alone_to path (suc n) hart turn first now alone all e =
    let before = before_next n first now e in
    let m = before.0 in
    let so_far = alone_to path n hart turn first m alone (λ i h. all i (omega (arith, h))) before.1.0 in
    next_alone path n hart turn first m now so_far.0 so_far.1 (all n (omega arith)) before.1.1

pub moved_alone : (old new : DebuggerValue Process) (points : List (Option Point)) (hart limit : ℕ) (why : Why) (count : ℕ) → Stops shows lacks old.target points limit why count (lone_moment old.target hart) hart new.target
    → new.turn ≡ turn_left count hart old.turn new.target → along (record { whose = Hart hart; count = count } ∷ []) count (place_of old) ≡ Some (place_of new)
moved_alone old new points hart limit why count stops turned =
    let now = stops.now in
    let led = (alone_to (record { whose = Hart hart; count = count } ∷ []) count hart old.turn (lone_moment old.target hart) now (refl, refl) (λ i h. whose_here (record { whose = Hart hart; count = count }) [] i h) stops.passes.reached).1 in
    let there = stopped_at _ why points limit count now new.target (λ full. full) stops.stops in
    led ∙ ap (λ (p : Process). Some (record { turn = turn_left count hart old.turn p; process = p })) (sym there) ∙ ap (λ (t : ℕ). Some (record { turn = t; process = new.target })) (sym turned)

pub moved_by_turns : (old new : DebuggerValue Process) (points : List (Option Point)) (limit : ℕ) (why : Why) (count : ℕ) → Stops shows lacks old.target points limit why count (first_moment old.target old.turn) new.turn new.target
    → along (record { whose = ByTurns; count = count } ∷ []) count (place_of old) ≡ Some (place_of new)
moved_by_turns old new points limit why count stops =
    let now = stops.now in
    let led = (by_turns_to (record { whose = ByTurns; count = count } ∷ []) count (first_moment old.target old.turn) now refl (λ i h. whose_here (record { whose = ByTurns; count = count }) [] i h) stops.passes.reached).1 in
    let there = stopped_at _ why points limit count now new.target (λ full. full) stops.stops in
    led ∙ ap (λ (t : ℕ). Some (record { turn = t; process = now.process })) (sym stops.turn_is) ∙ ap (λ (p : Process). Some (record { turn = new.turn; process = p })) (sym there)

pub within_limit : {first : Moment} (target : Process) (points : List (Option Point)) (limit : ℕ) (why : Why) (count turn : ℕ) (process : Process) → Stops shows lacks target points limit why count first turn process → count ≤ limit
within_limit target points limit why count turn process stops = stops.passes.within
