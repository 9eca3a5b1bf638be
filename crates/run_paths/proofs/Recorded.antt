-- Paths of records and by turns are flat runs.
use Rattle.std.proofs.Common.{◌≡◌, ℕ, zero, suc, ◌+◌, ◌-◌, ◌<◌, ◌≤◌, nat_lt, Bool, true, false, List, [], ◌∷◌, ◌++◌, length, take, replicate, slice_index_or, Option, Some, None, option_map, option_and_then, unwrap_or, refl, sym, ap, ◌∙◌, subst, arith, length-append}
use Rattle.std.proofs.lemmas.Option.{none-some}
use Rattle.std.proofs.lemmas.List.{length-replicate, take_more}
use Rattle.flat_machine.specs.ByTurns.{turn_after, by_turns}
use Rattle.flat_machine.specs.Process.{Process, flat_step, flat_run}
use Rattle.flat_machine.proofs.RunLaws.{by_turns_more, by_turns_none, flat_run_more, flat_run_none}
use Rattle.flat_machine.specs.Schedule.{written_out}
use Rattle.flat_machine.specs.declared.schedule.Turn.{Turn}
use Rattle.run_paths.specs.declared.path.Whose.TheVariants.{ByTurns, Hart}
use Rattle.run_paths.specs.declared.path.Stretch.{Stretch}
use Rattle.run_paths.specs.declared.running.Place.{Place}
use Rattle.run_paths.specs.Paths.{along, path_of, step_by, step_of, stretch_of, whose_at}
use Rattle.run_paths.proofs.Along.{along_none, whose_here, whose_past}
use Rattle.run_paths.proofs.Parts.{is_less, is_most}

some_place : (a b : Place) → ◌≡◌ {A = Option Place} (Some a) (Some b) → a ≡ b
some_place a b e = ap (λ (o : Option Place). unwrap_or o a) e

-- the place before the last step
before_last : (path : List Stretch) (n : ℕ) (first at : Place) → along path (suc n) first ≡ Some at → (m : Place) × ((along path n first ≡ Some m) × (step_by (whose_at path n) m ≡ Some at))
unfolding along
before_last path n first at e = by_before (along path n first) refl e
  where
    by_before : (o : Option Place) → along path n first ≡ o → option_and_then (step_by (whose_at path n)) o ≡ Some at → (m : Place) × ((along path n first ≡ Some m) × (step_by (whose_at path n) m ≡ Some at))
    by_before None is f = absurd (none-some at f)
    by_before (Some m) is f = (m, (is, f))

-- a step is the flat step of its hart
stepped : (hart : ℕ) (m at : Place) → step_of hart m ≡ Some at → (flat_step hart m.process ≡ Some at.process) × (at.turn ≡ turn_after hart at.process)
stepped hart m at e = by_step (flat_step hart m.process) refl e
  where
    by_step : (o : Option Process) → flat_step hart m.process ≡ o → option_map (λ (next : Process). record { turn = turn_after hart next; process = next }) o ≡ Some at
        → (flat_step hart m.process ≡ Some at.process) × (at.turn ≡ turn_after hart at.process)
    by_step None is f = absurd (none-some at f)
    by_step (Some next) is f =
        let made : Place = record { turn = turn_after hart next; process = next } in
        let same : made ≡ at = some_place made at f in
        (is ∙ ap (λ (p : Place). Some p.process) same, subst (λ (p : Place). p.turn ≡ turn_after hart p.process) same refl)

-- ---- turns

at_first : (k hart i : ℕ) (rest : List ℕ) (d : ℕ) → i < k → slice_index_or (replicate k hart ++ rest) i d ≡ hart
at_first zero hart i rest d h = absurd (omega (arith, h))
at_first (suc k) hart zero rest d h = refl
at_first (suc k) hart (suc i) rest d h = at_first k hart i rest d (omega (arith, h))

at_rest : (k hart i : ℕ) (rest : List ℕ) (d : ℕ) → k ≤ i → slice_index_or (replicate k hart ++ rest) i d ≡ slice_index_or rest (i - k) d
at_rest zero hart i rest d h = let none : i ≡ i - 0 = omega arith in ap (λ j. slice_index_or rest j d) none
at_rest (suc k) hart zero rest d h = absurd (omega (arith, h))
at_rest (suc k) hart (suc i) rest d h = let less : i - k ≡ suc i - suc k = omega arith in at_rest k hart i rest d (omega (arith, h)) ∙ ap (λ j. slice_index_or rest j d) less

whose_written : (turns : List Turn) (i d : ℕ) → i < length (written_out turns) → whose_at (path_of turns) i ≡ Some (Hart (slice_index_or (written_out turns) i d))
whose_written [] i d h = absurd (omega (arith, h))
whose_written (turn ∷ turns) i d h =
    by_test turn turns i d h (λ k f. whose_written turns k d f) (nat_lt i turn.count) refl
  where
    by_test : (turn : Turn) (turns : List Turn) (i d : ℕ) → i < length (written_out (turn ∷ turns)) → ((k : ℕ) → k < length (written_out turns) → whose_at (path_of turns) k ≡ Some (Hart (slice_index_or (written_out turns) k d)))
        → (b : Bool) → nat_lt i turn.count ≡ b → whose_at (path_of (turn ∷ turns)) i ≡ Some (Hart (slice_index_or (written_out (turn ∷ turns)) i d))
    by_test turn turns i d h again true e =
        whose_here (stretch_of turn) (path_of turns) i (is_less i turn.count e) ∙ ap (λ (n : ℕ). Some (Hart n)) (sym (at_first turn.count turn.hart i (written_out turns) d (is_less i turn.count e)))
    by_test turn turns i d h again false e =
        let most = is_most i turn.count e in
        let long = length-append (replicate turn.count turn.hart) (written_out turns) in
        let first = length-replicate turn.count turn.hart in
        whose_past (stretch_of turn) (path_of turns) i most ∙ again (i - turn.count) (omega (arith, h, long, first, most))
        ∙ ap (λ (n : ℕ). Some (Hart n)) (sym (at_rest turn.count turn.hart i (written_out turns) d most))

pub run_of_turns : (turns : List Turn) (steps : ℕ) (first at : Place) → steps ≤ length (written_out turns) → along (path_of turns) steps first ≡ Some at → flat_run (take steps (written_out turns)) first.process ≡ Some at.process
run_of_turns turns zero first at few e =
    let same : first ≡ at = some_place first at (sym (along_none (path_of turns) first) ∙ e) in
    flat_run_none first.process ∙ ap (λ (p : Place). Some p.process) same
run_of_turns turns (suc n) first at few e =
    let before = before_last (path_of turns) n first at e in
    let m = before.0 in
    let hart = slice_index_or (written_out turns) n 0 in
    let whose = whose_written turns n 0 (omega (arith, few)) in
    let step = stepped hart m at (ap (λ w. step_by w m) (sym whose) ∙ before.1.1) in
    let so_far = run_of_turns turns n first m (omega (arith, few)) before.1.0 in
    let more : suc n ≡ n + 1 = omega arith in
    ap (λ k. flat_run (take k (written_out turns)) first.process) more ∙ ap (λ (l : List ℕ). flat_run l first.process) (take_more (written_out turns) n 0 (omega (arith, few)))
    ∙ flat_run_more (take n (written_out turns)) hart first.process m.process at.process so_far step.0

-- ---- by turns

pub run_by_turns : (count steps : ℕ) (first at : Place) → steps ≤ count → along (record { whose = ByTurns; count = count } ∷ []) steps first ≡ Some at → by_turns steps first.turn first.process ≡ Some (at.turn, at.process)
run_by_turns count zero first at few e =
    let same : first ≡ at = some_place first at (sym (along_none (record { whose = ByTurns; count = count } ∷ []) first) ∙ e) in
    by_turns_none first.turn first.process ∙ ap (λ (p : Place). Some (p.turn, p.process)) same
run_by_turns count (suc n) first at few e =
    let path : List Stretch = record { whose = ByTurns; count = count } ∷ [] in
    let before = before_last path n first at e in
    let m = before.0 in
    let step = stepped m.turn m at (ap (λ w. step_by w m) (sym (whose_here (record { whose = ByTurns; count = count }) [] n (omega (arith, few)))) ∙ before.1.1) in
    let so_far = run_by_turns count n first m (omega (arith, few)) before.1.0 in
    let more : suc n ≡ n + 1 = omega arith in
    ap (λ k. by_turns k first.turn first.process) more ∙ by_turns_more n first.turn m.turn first.process m.process at.process so_far step.0
    ∙ ap (λ t. Some (t, at.process)) (sym step.1)
