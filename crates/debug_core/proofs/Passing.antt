-- Steps that pass with no reason to stop.
use Rattle.std.proofs.Common.{◌≡◌, ◌≢◌, ℕ, zero, suc, ◌+◌, ◌≤◌, ◌⊎◌, List, [], ◌∷◌, length, replicate, take, slice_index_or, Option, Some, None, IfSome, option_and_then, option_map, unwrap_or, slice_index, nat_cmp, inl, inr, subst, sym, ap, ◌∙◌, refl, below_more, arith}
use Rattle.std.specs.Prelude.{◌↔◌}
use Rattle.std.specs.FinMap as map
use Rattle.std.proofs.lemmas.List.{get_or-replicate}
use Rattle.page_memory.specs.Pages.{Page}
use Rattle.page_memory.specs.Pages as plain
use Rattle.page_memory.specs.Memory.{byte_at, unreserved}
use Rattle.page_memory.specs.Words.{page_number, page_offset}
use Rattle.debug_core.specs.Points.{bytes_from, point_at, IsPoint, ArePoints}
use Rattle.debug_core.specs.Seen.{AreSeen, IsSeen}
use Rattle.debug_core.specs.Limits.{Limit}
use Rattle.debug_core.specs.Stops.{Moment, last_hart, moment_after, next_moment, reason, Advances, IsFullAt, Passes, PassesTo, StopsFor}
use Rattle.flat_machine.specs.Process.{Process}
use Rattle.debug_core.specs.declared.point.Why.{Why}
use Rattle.debug_core.specs.declared.point.Why.TheVariants.{Ended, Watch as Watched, Gone, Break as Broke, Limit as Limited, Absent}
use Rattle.debug_core.specs.declared.point.Point.{Point}
use Rattle.debug_core.specs.declared.point.Point.TheVariants.{Break, Watch}

pub passes_none : (limits : Limit → Type 0) (points : List (Option Point)) (limit : ℕ) (first : Moment) → Passes limits points limit 0 first first
unfolding moment_after
passes_none limits points limit first = record { reached = refl; within = omega arith; before = λ count h. absurd (omega (arith, h)) }

-- no step leads to the moment itself
pub passes_to_none : (limits : Limit → Type 0) (points : List (Option Point)) (limit : ℕ) (first : Moment) → PassesTo limits points limit 0 first first.turn first.process
passes_to_none limits points limit first = record { was = first.was; passes = passes_none limits points limit first }

-- one step more
pub passes_more : (limits : Limit → Type 0) (points : List (Option Point)) (limit count : ℕ) (first now next : Moment) → Passes limits points limit count first now → reason points limit count now ≡ None
    → (¬ IsFullAt limits count first now) → next_moment now ≡ Some next → count ≢ limit → Passes limits points limit (count + 1) first next
unfolding moment_after
passes_more limits points limit count first now next passes none recordable step below =
    let more : suc count ≡ count + 1 = omega arith in
    let here : IfSome (moment_after count first) (λ m. (reason points limit count m ≡ None) × (¬ IsFullAt limits count first m)) =
    subst (λ found. IfSome found (λ m. (reason points limit count m ≡ None) × (¬ IsFullAt limits count first m))) (sym passes.reached) (none, recordable) in
    record {
      reached = ap (λ k. moment_after k first) (sym more) ∙ ap (option_and_then next_moment) passes.reached ∙ step;
      within = let within = passes.within in omega (arith, below);
      before = λ k h. below_more (λ i. IfSome (moment_after i first) (λ m. (reason points limit i m ≡ None) × (¬ IsFullAt limits i first m))) count (λ i l. passes.before i l) here k h;
    }

pub last_of_none : (first : Moment) → last_hart 0 first ≡ Some first.turn
unfolding last_hart
last_of_none first = refl

-- the last step is that of the hart whose turn it was
pub last_of_more : (count : ℕ) (first now : Moment) → moment_after count first ≡ Some now → last_hart (count + 1) first ≡ Some now.turn
unfolding last_hart
last_of_more count first now reached =
    let more : count + 1 ≡ suc count = omega arith in
    ap (λ k. last_hart k first) more ∙ ap (option_map (λ (m : Moment). m.turn)) reached

module _ {T : Type 0} (shown : T → Process) (limits : T → Limit → Type 0) where
  -- a step of a run by what it was answered with
  pub advances_by : (full : Type 0) (told why : Option Why) (points : List (Option Point)) (limit count : ℕ) (now : Moment) (turn : ℕ) (process : Process) → told ≡ why
      → Advances shown limits full told points limit count now turn process → Advances shown limits full why points limit count now turn process
  advances_by full told why points limit count now turn process same advances = subst (λ w. Advances shown limits full w points limit count now turn process) same advances

  -- where no more can be recorded is told in two ways
  pub stops_as : (full other : Type 0) → full ↔ other → (why : Why) (points : List (Option Point)) (limit count : ℕ) (now : Moment) (process : Process)
      → StopsFor shown limits full why points limit count now process → StopsFor shown limits other why points limit count now process
  stops_as full other same Ended points limit count now process stops =
      elim stops [
        | inl ended ↦ inl ended
        | inr ran_out ↦ inr (ran_out.0, (ran_out.1.0, same.0 ran_out.1.1))
      ]
  stops_as full other same (Watched number) points limit count now process stops = stops
  stops_as full other same Gone points limit count now process stops = stops
  stops_as full other same (Broke number) points limit count now process stops = stops
  stops_as full other same Limited points limit count now process stops = stops
  stops_as full other same Absent points limit count now process stops = (
    stops.0,
    elim stops.1 [
      | inl lacking ↦ inl (lacking.0, ((λ o. lacking.1.0 (same.1 o)), lacking.1.1))
      | inr unread ↦ inr unread
    ],
  )

-- ---- before anything was seen

pub nothing_at : (address : ℕ) → byte_at (unreserved map.empty) address ≡ None
unfolding plain.byte_at
nothing_at address = ap (option_map (λ (page : Page). slice_index page.bytes (page_offset address))) (map.get-empty nat_cmp (page_number address))

nothing_from : (count size address : ℕ) → count ≤ size → take count (replicate size None) ≡ bytes_from (unreserved map.empty) address count
unfolding bytes_from
nothing_from zero size address h = refl
nothing_from (suc count) zero address h = absurd (omega arith)
nothing_from (suc count) (suc size) address h = λ i. sym (nothing_at address) i ∷ nothing_from count size (address + 1) (omega arith) i

seen_as_nothing : (point : Option Point) → IsPoint point → IsSeen point (replicate 16 None) (unreserved map.empty)
seen_as_nothing None is = tt
seen_as_nothing (Some (Break address)) is = tt
seen_as_nothing (Some (Watch address length)) is = let few = is.1.0 in nothing_from length 16 address (omega (arith, few))

pub seen_nothing : (points : List (Option Point)) → length points ≤ 32 → ArePoints points → AreSeen points (replicate 32 (replicate 16 None)) (unreserved map.empty)
seen_nothing points few are number h =
    subst (λ window. IsSeen (slice_index_or points number None) window (unreserved map.empty)) (sym (get_or-replicate 32 number (replicate 16 None) [] (omega (arith, few, h)))) (seen_as_nothing (point_at points number) (are number))

-- the watches are as before the first step, where no step was taken, or there are none
pub seen_unlooked : (limits : Limit → Type 0) (points : List (Option Point)) (limit count : ℕ) (first now : Moment) → length points ≤ 32 → ArePoints points → first.was ≡ unreserved map.empty
    → Passes limits points limit count first now → (points ≡ []) ⊎ (count ≡ 0) → AreSeen points (replicate 32 (replicate 16 None)) now.was
unfolding moment_after
seen_unlooked limits points limit count first now few are none passes unseen =
    elim unseen [
      | inl without ↦ λ number h. let nothing = ap length without in absurd (omega (arith, h, nothing))
      | inr none_done ↦
          let here : Some first ≡ Some now = ap (λ k. moment_after k first) (sym none_done) ∙ passes.reached in
          subst (AreSeen points (replicate 32 (replicate 16 None))) (sym none ∙ ap (λ (o : Option Moment). (unwrap_or o first).was) here) (seen_nothing points few are)
    ]
