-- Parts of paths lead where the paths do.
use Rattle.std.proofs.Common.{◌≡◌, ℕ, zero, suc, ◌+◌, ◌-◌, ◌<◌, ◌≤◌, nat_lt, true, false, List, [], ◌∷◌, length, take, replicate, slice_index_or, Option, Some, None, option_map, option_and_then, unwrap_or, cond, refl, sym, ap, ◌∙◌, subst, arith, zero-add}
use Rattle.std.proofs.lemmas.Option.{none-some}
use Rattle.std.proofs.lemmas.List.{take_all}
use Rattle.flat_machine.specs.ByTurns.{turn_after, by_turns}
use Rattle.flat_machine.specs.Process.{Process, flat_step, flat_run}
use Rattle.run_paths.specs.declared.path.Whose.TheVariants.{ByTurns, Hart}
use Rattle.run_paths.specs.declared.path.Stretch.{Stretch}
use Rattle.run_paths.specs.declared.running.Place.{Place}
use Rattle.run_paths.specs.Paths.{step_of, step_by, whose_at, along, steps_of, turn_behind, Leads}
use Rattle.flat_machine.specs.Schedule.{room, rest_in_last}

pub along_none : (path : List Stretch) (first : Place) → along path 0 first ≡ Some first
unfolding along
along_none path first = refl

pub along_more : (path : List Stretch) (count : ℕ) (first at : Place) → along path count first ≡ Some at → along path (count + 1) first ≡ step_by (whose_at path count) at
unfolding along
along_more path count first at e =
    let more : count + 1 ≡ suc count = omega arith in
    ap (λ n. along path n first) more ∙ ap (option_and_then (step_by (whose_at path count))) e

-- the same behind some steps
pub along_behind : (part path : List Stretch) (before count : ℕ) (first at : Place) → along path before first ≡ Some at
    → ((i : ℕ) → i < count → whose_at part i ≡ whose_at path (before + i)) → along part count at ≡ along path (before + count) first
unfolding along
along_behind part path before zero first at e same =
    let none : before ≡ before + 0 = omega arith in sym e ∙ ap (λ n. along path n first) none
along_behind part path before (suc count) first at e same =
    let more : suc (before + count) ≡ before + suc count = omega arith in
    ap (option_and_then (step_by (whose_at part count))) (along_behind part path before count first at e (λ i h. same i (omega (arith, h))))
    ∙ ap (λ w. option_and_then (step_by w) (along path (before + count) first)) (same count (omega arith))
    ∙ ap (λ n. along path n first) more

-- two paths of the same steps
pub along_same : (part path : List Stretch) (count : ℕ) (first : Place) → ((i : ℕ) → i < count → whose_at part i ≡ whose_at path i) → along part count first ≡ along path count first
along_same part path count first same =
    let none : ((i : ℕ) → i < count → whose_at part i ≡ whose_at path (0 + i)) = λ i h. same i h ∙ ap (whose_at path) (sym (zero-add i)) in
    along_behind part path 0 count first first (along_none path first) none ∙ ap (λ n. along path n first) (zero-add count)

-- ---- steps by turns

turn_of : (p q : ℕ × Process) → ◌≡◌ {A = Option (ℕ × Process)} (Some p) (Some q) → (p.0 ≡ q.0) × (p.1 ≡ q.1)
turn_of p q e = (ap (λ o. (unwrap_or {T = ℕ × Process} o p).0) e, ap (λ o. (unwrap_or {T = ℕ × Process} o p).1) e)

same_place : (a b : ℕ) (p q : Process) → a ≡ b → p ≡ q → ◌≡◌ {A = Option Place} (Some (record { turn = a; process = p })) (Some (record { turn = b; process = q }))
same_place a b p q e f = ap (λ n. Some (record { turn = n; process = p })) e ∙ ap (λ r. Some (record { turn = b; process = r })) f

pub along_by_turns : (path : List Stretch) (count : ℕ) (at : Place) (turn : ℕ) (process : Process) → ((i : ℕ) → i < count → whose_at path i ≡ Some ByTurns)
    → by_turns count at.turn at.process ≡ Some (turn, process) → along path count at ≡ Some (record { turn = turn; process = process })
unfolding by_turns along
along_by_turns path zero at turn process all e =
    let parts = turn_of (at.turn, at.process) (turn, process) e in same_place at.turn turn at.process process parts.0 parts.1
along_by_turns path (suc count) at turn process all e =
    by_turn path count at turn process all (λ then f. along_by_turns path count then turn process (λ i h. all i (omega (arith, h))) f) (flat_step at.turn at.process) refl e
  where
    by_turn : (path : List Stretch) (count : ℕ) (at : Place) (turn : ℕ) (process : Process) → ((i : ℕ) → i < suc count → whose_at path i ≡ Some ByTurns)
        → ((then : Place) → by_turns count then.turn then.process ≡ Some (turn, process) → along path count then ≡ Some (record { turn = turn; process = process }))
        → (o : Option Process) → flat_step at.turn at.process ≡ o → option_and_then (λ next. by_turns count (turn_after at.turn next) next) o ≡ Some (turn, process)
        → along path (suc count) at ≡ Some (record { turn = turn; process = process })
    by_turn path count at turn process all again None is f = absurd (none-some _ f)
    by_turn path count at turn process all again (Some next) is f =
        let then : Place = record { turn = turn_after at.turn next; process = next } in
        let one : along path 1 at ≡ Some then =
        ap (λ w. step_by w at) (all 0 (omega arith)) ∙ ap (option_map (λ (p : Process). record { turn = turn_after at.turn p; process = p })) is in
        let rest = again then f in
        let split = along_behind path path 1 count at then one (λ i h. all i (omega (arith, h)) ∙ sym (all (1 + i) (omega (arith, h)))) in
        let more : 1 + count ≡ suc count = omega arith in
        ap (λ n. along path n at) (sym more) ∙ sym split ∙ rest

-- ---- steps of one hart

pub along_hart : (path : List Stretch) (count hart : ℕ) (at : Place) (process : Process) → ((i : ℕ) → i < count → whose_at path i ≡ Some (Hart hart))
    → flat_run (replicate count hart) at.process ≡ Some process → along path count at ≡ Some (record { turn = turn_behind count hart at.turn process; process = process })
unfolding flat_run along
along_hart path zero hart at process all e = ap (option_map (λ (p : Process). record { turn = at.turn; process = p })) e
along_hart path (suc count) hart at process all e =
    by_first path count hart at process all (λ then f. along_hart path count hart then process (λ i h. all i (omega (arith, h))) f) (flat_step hart at.process) refl e
  where
    turn_is : (path : List Stretch) (hart : ℕ) (process : Process) (n : ℕ) (next : Process)
        → along path n (record { turn = turn_after hart next; process = next }) ≡ Some (record { turn = turn_behind n hart (turn_after hart next) process; process = process })
        → along path n (record { turn = turn_after hart next; process = next }) ≡ Some (record { turn = turn_after hart process; process = process })
    turn_is path hart process zero next f =
        let same : next ≡ process = ap (λ (o : Option Place). (unwrap_or o (record { turn = 0; process = next })).process) f in
        ap (λ (p : Process). Some (record { turn = turn_after hart p; process = p })) same
    turn_is path hart process (suc n) next f = f

    by_first : (path : List Stretch) (count hart : ℕ) (at : Place) (process : Process) → ((i : ℕ) → i < suc count → whose_at path i ≡ Some (Hart hart))
        → ((then : Place) → flat_run (replicate count hart) then.process ≡ Some process → along path count then ≡ Some (record { turn = turn_behind count hart then.turn process; process = process }))
        → (o : Option Process) → flat_step hart at.process ≡ o → option_and_then (flat_run (replicate count hart)) o ≡ Some process
        → along path (suc count) at ≡ Some (record { turn = turn_after hart process; process = process })
    by_first path count hart at process all again None is f = absurd (none-some _ f)
    by_first path count hart at process all again (Some next) is f =
        let then : Place = record { turn = turn_after hart next; process = next } in
        let one : along path 1 at ≡ Some then =
        ap (λ w. step_by w at) (all 0 (omega arith)) ∙ ap (option_map (λ (p : Process). record { turn = turn_after hart p; process = p })) is in
        let rest = turn_is path hart process count next (again then f) in
        let split = along_behind path path 1 count at then one (λ i h. all i (omega (arith, h)) ∙ sym (all (1 + i) (omega (arith, h)))) in
        let more : 1 + count ≡ suc count = omega arith in
        ap (λ n. along path n at) (sym more) ∙ sym split ∙ rest

-- ---- a stretch of a path

pub lt_yes : (a b : ℕ) → a < b → nat_lt a b ≡ true
lt_yes a b h = grind arith

pub lt_no : (a b : ℕ) → b ≤ a → nat_lt a b ≡ false
lt_no a b h = grind arith

pub whose_here : (stretch : Stretch) (path : List Stretch) (i : ℕ) → i < stretch.count → whose_at (stretch ∷ path) i ≡ Some stretch.whose
unfolding whose_at
whose_here stretch path i h = ap (λ b. cond b (Some stretch.whose) (whose_at path (i - stretch.count))) (lt_yes i stretch.count h)

pub whose_past : (stretch : Stretch) (path : List Stretch) (i : ℕ) → stretch.count ≤ i → whose_at (stretch ∷ path) i ≡ whose_at path (i - stretch.count)
unfolding whose_at
whose_past stretch path i h = ap (λ b. cond b (Some stretch.whose) (whose_at path (i - stretch.count))) (lt_no i stretch.count h)

pub whose_in : (path : List Stretch) (n : ℕ) (stretch : Stretch) (i : ℕ) → n < length path → stretch ≡ slice_index_or path n stretch → i < stretch.count
    → whose_at path (steps_of (take n path) + i) ≡ Some stretch.whose
unfolding steps_of
whose_in [] n stretch i within is h = absurd (omega (arith, within))
whose_in (first ∷ path) zero stretch i within is h =
    ap (whose_at (first ∷ path)) (zero-add i) ∙ whose_here first path i (subst (λ (s : Stretch). i < s.count) is h) ∙ ap (λ (s : Stretch). Some s.whose) (sym is)
whose_in (first ∷ path) (suc n) stretch i within is h =
    let past : first.count ≤ (first.count + steps_of (take n path)) + i = omega arith in
    let left : ((first.count + steps_of (take n path)) + i) - first.count ≡ steps_of (take n path) + i = omega arith in
    whose_past first path ((first.count + steps_of (take n path)) + i) past ∙ ap (whose_at path) left ∙ whose_in path n stretch i (omega (arith, within)) is h

pub steps_more : (path : List Stretch) (n : ℕ) (stretch : Stretch) → n < length path → stretch ≡ slice_index_or path n stretch → steps_of (take (n + 1) path) ≡ steps_of (take n path) + stretch.count
unfolding steps_of
steps_more path n stretch within is = let more : n + 1 ≡ suc n = omega arith in ap (λ k. steps_of (take k path)) more ∙ by_place path n within is
  where
    by_place : (path : List Stretch) (n : ℕ) → n < length path → stretch ≡ slice_index_or path n stretch → steps_of (take (suc n) path) ≡ steps_of (take n path) + stretch.count
    by_place [] n within is = absurd (omega (arith, within))
    by_place (first ∷ path) zero within is = let same : first.count ≡ stretch.count = ap (λ (s : Stretch). s.count) (sym is) in omega (arith, same)
    by_place (first ∷ path) (suc n) within is = let rest = by_place path n (omega (arith, within)) is in omega (arith, rest)

-- one more stretch of a path
pub no_more : (path : List Stretch) (n : ℕ) → steps_of (take n path) ≤ steps_of path
unfolding steps_of
no_more path zero = omega arith
no_more [] (suc n) = omega arith
no_more (stretch ∷ path) (suc n) = let rest = no_more path n in omega (arith, rest)

pub along_stretch : (path : List Stretch) (n : ℕ) (stretch : Stretch) (first at next : Place) → n < length path → stretch ≡ slice_index_or path n stretch
    → along path (steps_of (take n path)) first ≡ Some at → along (stretch ∷ []) stretch.count at ≡ Some next → along path (steps_of (take (n + 1) path)) first ≡ Some next
along_stretch path n stretch first at next within is there e =
    let same : ((i : ℕ) → i < stretch.count → whose_at (stretch ∷ []) i ≡ whose_at path (steps_of (take n path) + i)) =
    λ i h. whose_here stretch [] i h ∙ sym (whose_in path n stretch i within is h) in
    ap (λ k. along path k first) (steps_more path n stretch within is) ∙ sym (along_behind (stretch ∷ []) path (steps_of (take n path)) stretch.count first at there same) ∙ e

-- ---- what the loops need

pub along_begins : (path : List Stretch) (first : Place) → along path (steps_of (take 0 path)) first ≡ Some first
unfolding steps_of along
along_begins path first = refl

pub along_all : (path : List Stretch) (n : ℕ) (first at : Place) → length path ≤ n → along path (steps_of (take n path)) first ≡ Some at → along path (steps_of path) first ≡ Some at
along_all path n first at all e = ap (λ (p : List Stretch). along path (steps_of p) first) (sym (take_all n path all)) ∙ e

pub leads_by_turns : (count steps : ℕ) (old new : Place) → steps ≡ count → by_turns steps old.turn old.process ≡ Some (new.turn, new.process) → Leads (record { whose = ByTurns; count = count }) old new
leads_by_turns count steps old new same e =
    along_by_turns (record { whose = ByTurns; count = count } ∷ []) count old new.turn new.process (λ i h. whose_here (record { whose = ByTurns; count = count }) [] i h)
    (ap (λ n. by_turns n old.turn old.process) (sym same) ∙ e)

-- so many steps of a hart's stretch were taken
abbrev pub IsOnWay : ℕ → ℕ → ℕ → Place → Place → Type 0
IsOnWay hart count left first at = (done : ℕ) × ((done + left ≡ count) × (along (record { whose = Hart hart; count = count } ∷ []) done first ≡ Some at))

pub way_begins : (hart count : ℕ) (first : Place) → IsOnWay hart count count first first
unfolding along
way_begins hart count first = (0, (omega arith, refl))

pub one_of_hart : (hart count left fewer : ℕ) (first at next : Place) → IsOnWay hart count left first at → 0 < left → fewer + 1 ≡ left → step_of hart at ≡ Some next → IsOnWay hart count fewer first next
one_of_hart hart count left fewer first at next way some less e =
    let done = way.0 in
    let there = way.1.0 in
    let path : List Stretch = record { whose = Hart hart; count = count } ∷ [] in
    (done + 1, (omega (arith, there, less), along_more path done first at way.1.1 ∙ ap (λ w. step_by w at) (whose_here (record { whose = Hart hart; count = count }) [] done (omega (arith, there, some))) ∙ e))

pub some_of_hart : (hart count left piece fewer : ℕ) (first at next : Place) → IsOnWay hart count left first at → 0 < piece → fewer + piece ≡ left → flat_run (replicate piece hart) at.process ≡ Some next.process
    → next.turn ≡ turn_after hart next.process → IsOnWay hart count fewer first next
some_of_hart hart count left piece fewer first at next way some less ran turned =
    let done = way.0 in
    let there = way.1.0 in
    let path : List Stretch = record { whose = Hart hart; count = count } ∷ [] in
    let here : ((i : ℕ) → i < count → whose_at path i ≡ Some (Hart hart)) = λ i h. whose_here (record { whose = Hart hart; count = count }) [] i h in
    let led = along_hart path piece hart at next.process (λ i h. here i (omega (arith, h, there, less))) ran in
    let split = along_behind path path done piece first at way.1.1 (λ i h. here i (omega (arith, h, there, less)) ∙ sym (here (done + i) (omega (arith, h, there, less)))) in
    (done + piece, (omega (arith, there, less), sym split ∙ led ∙ same_place _ _ next.process next.process (behind piece some ∙ sym turned) refl))
  where
    behind : (n : ℕ) → 0 < n → turn_behind n hart at.turn next.process ≡ turn_after hart next.process
    behind zero h = absurd (omega (arith, h))
    behind (suc n) h = refl

pub all_of_hart : (hart count left : ℕ) (first at : Place) → IsOnWay hart count left first at → left ≤ 0 → Leads (record { whose = Hart hart; count = count }) first at
all_of_hart hart count left first at way none =
    let there = way.1.0 in
    let all : way.0 ≡ count = omega (arith, there, none) in
    ap (λ n. along (record { whose = Hart hart; count = count } ∷ []) n first) (sym all) ∙ way.1.1

pub room_first : (hart : ℕ) → room [] hart ≡ 4294967295000000
unfolding room rest_in_last
room_first hart = refl
