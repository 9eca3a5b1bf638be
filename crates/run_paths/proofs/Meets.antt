-- What a search for points has met.
use Rattle.std.proofs.Common.{◌≡◌, ℕ, zero, suc, ◌+◌, ◌-◌, ◌<◌, ◌&&◌, Bool, true, false, is_none, is_some, List, Option, Some, None, option_map, option_and_then, IfSome, unwrap_or, if◌then◌else◌, inl, inr, refl, sym, ap, ◌∙◌, subst, arith}
use Rattle.std.proofs.lemmas.Bool.Decides.{eqb_tells}
use Rattle.std.proofs.lemmas.Option.{none-some}
use Rattle.std.specs.Bool.{⊤}
use Rattle.std.proofs.lemmas.Bool.{false≢true}
use Rattle.std.specs.Option.{option_or}
use Rattle.std.specs.List.{position_from}
use Rattle.page_memory.specs.Memory.{Memory}
use Rattle.flat_machine.specs.ByTurns.{turn_after}
use Rattle.flat_machine.specs.Process.{Process, flat_step, hart_registers, is_live, may_step, stepped}
use Rattle.flat_machine.specs.declared.end.End.{End}
use Rattle.debug_core.specs.Points.{is_hit}
use Rattle.debug_core.specs.Stops.{break_at}
use Rattle.debug_core.specs.declared.point.Point.{Point}
use Rattle.debug_core.specs.declared.point.Why.{Why}
use Rattle.debug_core.specs.declared.point.Why.TheVariants.{Ended, Watch, Gone, Break}
use Rattle.run_paths.specs.declared.path.Stretch.{Stretch}
use Rattle.run_paths.specs.declared.path.Whose.{Whose}
use Rattle.run_paths.specs.declared.running.Place.{Place}
use Rattle.run_paths.specs.declared.searching.Met.{Met}
use Rattle.run_paths.specs.declared.searching.Search.{Search}
use Rattle.run_paths.specs.Meeting.{met_at, noted, shifted, why_behind, why_before, why_met, why_noted, LastMet}
use Rattle.run_paths.specs.Paths.{along, hart_of, step_by, step_of, whose_at}
use Rattle.run_paths.specs.Searches.{Advances}
use Rattle.run_paths.proofs.Along.{along_none, along_more, along_behind}

-- ---- one place

-- a process of which a step was taken may take it
no_step : (hart : ℕ) (process : Process) → may_step hart process ≡ false → flat_step hart process ≡ None
unfolding flat_step
no_step hart process is = ap (λ b. if b then option_map (stepped hart process) (hart_registers hart process) else None) is

steps_if : (hart : ℕ) (process next : Process) → flat_step hart process ≡ Some next → may_step hart process ≡ true
steps_if hart process next e = by_may (may_step hart process) refl
  where
    by_may : (b : Bool) → may_step hart process ≡ b → may_step hart process ≡ true
    by_may true is = is
    by_may false is = absurd (none-some next (sym (no_step hart process is) ∙ e))

-- why a process that may step is stopped
stops_for : (ending : Option End) (live : Bool) (hit at : Option ℕ) → (is_none ending && live) ≡ true
    → (if is_some ending then Some Ended else option_or (option_map Watch hit) (if live then option_or (option_map Break at) None else Some Gone)) ≡ why_before hit at
stops_for None true (Some number) at may = refl
stops_for None true None (Some number) may = refl
stops_for None true None None may = refl
stops_for None false hit at may = absurd (false≢true may)
stops_for (Some end) live hit at may = absurd (false≢true may)

pub reason_is : (points : List (Option Point)) (was : Memory) (hart : ℕ) (process next : Process) → flat_step hart process ≡ Some next
    → why_met points was hart process ≡ why_before (position_from (is_hit was process.memory) 0 points) (break_at points (hart_registers hart process))
reason_is points was hart process next e =
    stops_for process.ending (is_live hart process) (position_from (is_hit was process.memory) 0 points) (break_at points (hart_registers hart process)) (steps_if hart process next e)

-- ---- a search

-- what the last step has hit
abbrev pub HitBehind : List (Option Point) → List Stretch → Place → ℕ → Option ℕ → Place → Type 0
HitBehind points path first zero hit now = ⊤
HitBehind points path first (suc count) hit now = (was : Place) → along path count first ≡ Some was → hit ≡ position_from (is_hit was.process.memory now.process.memory) 0 points

-- it stands behind its steps, and has what was met last
pub record HasSearched (points : List (Option Point)) (path : List Stretch) (first : Place) (search : Search) : Type 0 where
  pub led : along path search.steps first ≡ Some search.place
  pub hit : HitBehind points path first search.steps search.hit search.place
  pub met : LastMet (met_at points path first) 0 search.steps search.met

last_none : (met : ℕ → Option Why) → LastMet met 0 0 None
last_none met i low h = absurd (omega (arith, h))

pub searched_none : (points : List (Option Point)) (path : List Stretch) (first : Place) → HasSearched points path first (record { place = first; steps = 0; hit = None; met = None })
searched_none points path first = record { led = along_none path first; hit = tt; met = last_none (met_at points path first) }

pub advances : (points : List (Option Point)) (whose : Whose) (old new : Search) (why : Option Why) (hit : Option ℕ) → step_of (hart_of whose old.place.turn) old.place ≡ Some new.place → new.steps ≡ old.steps + 1
    → why ≡ why_noted old.steps old.hit points (hart_registers (hart_of whose old.place.turn) old.place.process) → new.met ≡ noted old.met old.steps why → new.hit ≡ hit
    → hit ≡ position_from (is_hit old.place.process.memory new.place.process.memory) 0 points → Advances points whose old new
advances points whose old new why hit stepped steps why_is met hit_is first =
    record { stepped = stepped; steps = steps; hit = hit_is ∙ first; met = met ∙ ap (noted old.met old.steps) why_is }

along_stuck : (path : List Stretch) (n : ℕ) (first : Place) → along path n first ≡ None → along path (suc n) first ≡ None
unfolding along
along_stuck path n first before = ap (option_and_then (step_by (whose_at path n))) before

-- a place that is led to behind a step has one before
place_was : (path : List Stretch) (n : ℕ) (first now : Place) → along path (suc n) first ≡ Some now → (was : Place) × (along path n first ≡ Some was)
place_was path n first now led = by_was (along path n first) refl
  where
    by_was : (o : Option Place) → along path n first ≡ o → (was : Place) × (along path n first ≡ Some was)
    by_was None before = absurd (none-some now (sym (along_stuck path n first before) ∙ led))
    by_was (Some was) before = (was, before)

-- a step of a place is one of its process
step_was : (hart : ℕ) (now next : Place) → step_of hart now ≡ Some next → (process : Process) × (flat_step hart now.process ≡ Some process)
step_was hart now next stepped = by_step (flat_step hart now.process) refl
  where
    by_step : (o : Option Process) → flat_step hart now.process ≡ o → (process : Process) × (flat_step hart now.process ≡ Some process)
    by_step None e = absurd (none-some next (sym (ap (option_map (λ (p : Process). record { turn = turn_after hart p; process = p })) e) ∙ stepped))
    by_step (Some process) e = (process, e)

-- what is met where a search stands
met_next : (points : List (Option Point)) (path : List Stretch) (first : Place) (n : ℕ) (hit : Option ℕ) (was now : Place) (whose : Whose) (process : Process) → along path n first ≡ Some was → along path (suc n) first ≡ Some now
    → whose_at path (suc n) ≡ Some whose → flat_step (hart_of whose now.turn) now.process ≡ Some process → hit ≡ position_from (is_hit was.process.memory now.process.memory) 0 points
    → met_at points path first (suc n) ≡ why_noted (suc n) hit points (hart_registers (hart_of whose now.turn) now.process)
met_next points path first n hit was now whose process before led is e hits =
    ap (option_and_then (λ (p : Place). option_and_then (why_behind points p (whose_at path (suc n))) (along path (suc n) first))) before
    ∙ ap (option_and_then (why_behind points was (whose_at path (suc n)))) led ∙ ap (λ w. why_behind points was w now) is
    ∙ reason_is points was.process.memory (hart_of whose now.turn) now.process process e
    ∙ ap (λ h. why_before h (break_at points (hart_registers (hart_of whose now.turn) now.process))) (sym hits)

met_is : (points : List (Option Point)) (path : List Stretch) (first : Place) (k : ℕ) (hit : Option ℕ) (now next : Place) (whose : Whose) → along path k first ≡ Some now → HitBehind points path first k hit now
    → whose_at path k ≡ Some whose → step_of (hart_of whose now.turn) now ≡ Some next
    → met_at points path first k ≡ why_noted k hit points (hart_registers (hart_of whose now.turn) now.process)
met_is points path first zero hit now next whose led hits is stepped = refl
met_is points path first (suc n) hit now next whose led hits is stepped =
    let before = place_was path n first now led in
    let step = step_was (hart_of whose now.turn) now next stepped in
    met_next points path first n hit before.0 now whose step.0 before.1 led is step.1 (hits before.0 before.1)

noted_more : (met : ℕ → Option Why) (k : ℕ) (found : Option Met) (why : Option Why) → met k ≡ why → LastMet met 0 k found → LastMet met 0 (k + 1) (noted found k why)
noted_more met k found (Some why) is last =
    let less : k < k + 1 = omega arith in
    (less, (is, λ i above h. let over : k < i = above in absurd (omega (arith, over, h))))
noted_more met k None None is last =
    λ i low h. elim (eqb_tells i k) [ inl same ↦ ap met same.1 ∙ is | inr other ↦ last i low (let differs = other.1 in omega (arith, h)) ]
noted_more met k (Some found) None is last =
    let before = last.0 in
    (omega (arith, before), (last.1.0, λ i above h. elim (eqb_tells i k) [ inl same ↦ ap met same.1 ∙ is | inr other ↦ last.1.1 i above (let differs = other.1 in omega (arith, h)) ]))

pub searched_more : (points : List (Option Point)) (path : List Stretch) (first : Place) (whose : Whose) (old new : Search) → HasSearched points path first old → whose_at path old.steps ≡ Some whose → Advances points whose old new
    → HasSearched points path first new
searched_more points path first whose old new searched is advances =
    let led : along path (old.steps + 1) first ≡ Some new.place = along_more path old.steps first old.place searched.led ∙ ap (λ w. step_by w old.place) is ∙ advances.stepped in
    let more : old.steps + 1 ≡ suc old.steps = omega arith in
    record {
      led = ap (λ n. along path n first) advances.steps ∙ led;
      hit = subst (λ n. HitBehind points path first n new.hit new.place) (sym (advances.steps ∙ more))
          (λ was before. advances.hit ∙ ap (λ (p : Place). position_from (is_hit p.process.memory new.place.process.memory) 0 points) (same_place old.place was (sym searched.led ∙ before)));
      met = subst (λ o. LastMet (met_at points path first) 0 new.steps o) (sym advances.met)
          (subst (λ n. LastMet (met_at points path first) 0 n (noted old.met old.steps (why_noted old.steps old.hit points (hart_registers (hart_of whose old.place.turn) old.place.process)))) (sym advances.steps)
          (noted_more (met_at points path first) old.steps old.met _ (met_is points path first old.steps old.hit old.place new.place whose searched.led searched.hit is advances.stepped) searched.met));
    }
  where
    same_place : (a b : Place) → ◌≡◌ {A = Option Place} (Some a) (Some b) → a ≡ b
    same_place a b e = ap (λ (o : Option Place). unwrap_or o a) e

-- ---- a part of a path

-- what is met on a part is met on the whole
pub met_part : (points : List (Option Point)) (path part : List Stretch) (first at : Place) (from count : ℕ) → along path from first ≡ Some at → ((i : ℕ) → i < count → whose_at part i ≡ whose_at path (from + i))
    → (i : ℕ) → 0 < i → i < count → met_at points part at i ≡ met_at points path first (from + i)
met_part points path part first at from count led same zero some within = absurd (omega (arith, some))
met_part points path part first at from count led same (suc n) some within =
    let more : suc (from + n) ≡ from + suc n = omega arith in
    let before : along part n at ≡ along path (from + n) first = along_behind part path from n first at led (λ i h. same i (omega (arith, h, within))) in
    let here : along part (suc n) at ≡ along path (suc (from + n)) first = along_behind part path from (suc n) first at led (λ i h. same i (omega (arith, h, within))) ∙ ap (λ k. along path k first) (sym more) in
    let whose : whose_at part (suc n) ≡ whose_at path (suc (from + n)) = same (suc n) within ∙ ap (whose_at path) (sym more) in
    ap (option_and_then (λ (p : Place). option_and_then (why_behind points p (whose_at part (suc n))) (along part (suc n) at))) before
    ∙ ap (λ o. option_and_then (λ (p : Place). option_and_then (why_behind points p (whose_at part (suc n))) o) (along path (from + n) first)) here
    ∙ ap (λ w. option_and_then (λ (p : Place). option_and_then (why_behind points p w) (along path (suc (from + n)) first)) (along path (from + n) first)) whose
    ∙ ap (met_at points path first) more

-- nothing is met behind no step
some_steps : (points : List (Option Point)) (path : List Stretch) (first : Place) (i : ℕ) (why : Why) → met_at points path first i ≡ Some why → 0 < i
some_steps points path first zero why e = absurd (none-some why e)
some_steps points path first (suc n) why e = omega arith

-- what was met last on a part was met last on the whole
pub last_part : (points : List (Option Point)) (path part : List Stretch) (first at : Place) (from count : ℕ) (met : Option Met) → along path from first ≡ Some at
    → ((i : ℕ) → i < count → whose_at part i ≡ whose_at path (from + i)) → LastMet (met_at points part at) 0 count met → LastMet (met_at points path first) from (from + count) (shifted from met)
last_part points path part first at from count None led same last =
    λ i low h.
    let there : from + (i - from) ≡ i = omega (arith, low) in
    ap (met_at points path first) (sym there) ∙ sym (met_part points path part first at from count led same (i - from) (omega (arith, low)) (omega (arith, low, h))) ∙ last (i - from) (omega (arith, low)) (omega (arith, low, h))
last_part points path part first at from count (Some found) led same last =
    let within = last.0 in
    let some = some_steps points part at found.steps found.why last.1.0 in
    let less : from + found.steps < from + count = omega (arith, within) in (
      less,
      (
        sym (met_part points path part first at from count led same found.steps some within) ∙ last.1.0,
        λ i above h.
            let over : from + found.steps < i = above in
            let there : from + (i - from) ≡ i = omega (arith, over) in
            ap (met_at points path first) (sym there) ∙ sym (met_part points path part first at from count led same (i - from) (omega (arith, over, some)) (omega (arith, over, h)))
            ∙ last.1.1 (i - from) (omega (arith, over)) (omega (arith, over, h)),
      ),
    )

pub last_within : (met : ℕ → Option Why) (low high : ℕ) (found : Option Met) → LastMet met low high found → IfSome found (λ it. it.steps < high)
last_within met low high None last = tt
last_within met low high (Some found) last = last.0
