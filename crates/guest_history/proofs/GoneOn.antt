-- Where a debugger stands after steps forward.
use Rattle.std.proofs.Common.{◌≡◌, ℕ, zero, suc, ◌+◌, ◌-◌, ◌<◌, ◌≤◌, List, [], ◌∷◌, length, take, slice_index_or, Some, refl, sym, ap, subst, ◌∙◌, arith}
use Rattle.std.proofs.Math.Nat.{add-suc}
use Rattle.flat_machine.specs.Process.{Process}
use Rattle.debug_core.specs.Debugging.{DebuggerValue}
use Rattle.run_paths.specs.declared.path.Stretch.{Stretch}
use Rattle.run_paths.specs.declared.path.Whose.{Whose}
use Rattle.run_paths.specs.declared.path.Whose.TheVariants.{Hart}
use Rattle.run_paths.specs.declared.running.Place.{Place}
use Rattle.guest_history.specs.declared.history.History.{History}
use Rattle.run_paths.specs.Paths.{along, hart_of, part_of, step_by, step_of, steps_of, whose_at}
use Rattle.run_paths.specs.declared.path.Path.{Path}
use Rattle.run_paths.specs.Extending.{IsCounted}
use Rattle.guest_history.specs.Checkpoints.{beginning}
use Rattle.guest_history.specs.Going.{last_by, next_hart}
use Rattle.guest_history.specs.Histories.{place_of, IsNext, Moves, Stands}
use Rattle.run_paths.proofs.Along.{along_none, along_more, along_behind, whose_here, no_more, whose_in, steps_more}
use Rattle.run_paths.proofs.Parts.{whose_part, steps_part}

-- a history with this debugger
abbrev pub with_debugger : History → DebuggerValue Process → ℕ → History
with_debugger old debugger done = record old { debugger = debugger; done = done }

pub moves_some : (old : History) (debugger : DebuggerValue Process) (whose : Whose) (count : ℕ) → Stands old → along (record { whose = whose; count = count } ∷ []) count (place_of old.debugger) ≡ Some (place_of debugger)
    → debugger.points ≡ old.debugger.points → Moves (with_debugger old debugger old.done) whose count
moves_some old debugger whose count stands moved points = record {
  at = place_of old.debugger;
  counted = stands.counted;
  within = stands.within;
  led = stands.led;
  moved = moved;
  points = points ∙ stands.points;
  ranged = stands.ranged;
  kept = stands.kept;
}

one_step : (whose : Whose) (at next : Place) (hart : ℕ) → hart_of whose at.turn ≡ hart → step_of hart at ≡ Some next → along (record { whose = whose; count = 1 } ∷ []) 1 at ≡ Some next
one_step whose at next hart is stepped =
    let path : List Stretch = record { whose = whose; count = 1 } ∷ [] in
    along_more path 0 at at (along_none path at) ∙ ap (λ w. step_by w at) (whose_here (record { whose = whose; count = 1 }) [] 0 (omega arith)) ∙ ap (λ h. step_of h at) is ∙ stepped

pub moves_one : (old : History) (debugger : DebuggerValue Process) (whose : Whose) (hart : ℕ) → Stands old → hart_of whose old.debugger.turn ≡ hart → step_of hart (place_of old.debugger) ≡ Some (place_of debugger)
    → debugger.points ≡ old.debugger.points → Moves (with_debugger old debugger old.done) whose 1
moves_one old debugger whose hart stands is stepped points = moves_some old debugger whose 1 stands (one_step whose (place_of old.debugger) (place_of debugger) hart is stepped) points

pub stands_still : (old : History) (debugger : DebuggerValue Process) → Stands old → place_of debugger ≡ place_of old.debugger → debugger.points ≡ old.debugger.points → Stands (with_debugger old debugger old.done)
stands_still old debugger stands same points = record {
  counted = stands.counted;
  within = stands.within;
  led = stands.led ∙ ap Some (sym same);
  points = points ∙ stands.points;
  ranged = stands.ranged;
  kept = stands.kept;
}

-- on the path that is known
pub stands_next : (old : History) (debugger : DebuggerValue Process) (whose : Whose) (limit steps : ℕ) → Stands old → IsNext old.path old.done (record { whose = whose; count = limit }) → steps ≤ limit
    → along (record { whose = whose; count = steps } ∷ []) steps (place_of old.debugger) ≡ Some (place_of debugger) → debugger.points ≡ old.debugger.points → Stands (with_debugger old debugger (old.done + steps))
stands_next old debugger whose limit steps stands next few moved points =
    let within = next.within in
    record {
      counted = stands.counted;
      within = omega (arith, within, few);
      led =
          sym (along_behind (record { whose = whose; count = steps } ∷ []) old.path.stretches.items old.done steps (beginning old.program) (place_of old.debugger) stands.led
          (λ i h. whose_here (record { whose = whose; count = steps }) [] i h ∙ sym (next.next i (omega (arith, h, few)))))
          ∙ moved;
      points = points ∙ stands.points;
      ranged = stands.ranged;
      kept = stands.kept;
    }

-- the first steps of a stretch that is next
pub next_some : (path : Path) (done most : ℕ) (stretch : Stretch) (whose : Whose) → IsNext path done stretch → stretch.whose ≡ whose → most ≤ stretch.count → IsNext path done (record { whose = whose; count = most })
next_some path done most stretch whose next is few =
    let within = next.within in
    record { within = omega (arith, within, few); next = λ i h. next.next i (omega (arith, h, few)) ∙ ap Some is }

-- the steps after some of those that are next
pub next_rest : (old now : Path) (first done taken most limit : ℕ) (whose : Whose) → now ≡ old → IsNext old first (record { whose = whose; count = limit }) → done ≡ first + taken → taken + most ≤ limit → IsNext now done (record { whose = whose; count = most })
next_rest old now first done taken most limit whose same next is few =
    let within = next.within in
    subst (λ (p : Path). IsNext p done (record { whose = whose; count = most })) (sym same) (record {
      within = omega (arith, within, few, is);
      next = λ i h. let place : done + i ≡ first + (taken + i) = omega (arith, is) in ap (whose_at old.stretches.items) place ∙ next.next (taken + i) (omega (arith, h, few));
    })

pub stands_one : (old : History) (debugger : DebuggerValue Process) (hart : ℕ) → Stands old → whose_at old.path.stretches.items old.done ≡ Some (Hart hart) → old.done < old.path.total
    → step_of hart (place_of old.debugger) ≡ Some (place_of debugger) → debugger.points ≡ old.debugger.points → Stands (with_debugger old debugger (old.done + 1))
stands_one old debugger hart stands is within stepped points =
    stands_next old debugger (Hart hart) 1 1 stands (record {
      within = omega (arith, within);
      next = λ i h. let first : old.done + i ≡ old.done = omega (arith, h) in ap (whose_at old.path.stretches.items) first ∙ is;
    }) (omega arith) (one_step (Hart hart) (place_of old.debugger) (place_of debugger) hart refl stepped) points

-- ---- the next turn of a record

pub next_turn : (path : Path) (items : List Stretch) (first done n : ℕ) (stretch : Stretch) → IsCounted path → first ≤ path.total → items ≡ part_of path.stretches.items first (path.total - first) → n < length items
    → stretch ≡ slice_index_or items n stretch → done ≡ first + steps_of (take n items) → IsNext path done stretch
next_turn path items first done n stretch counted within items_are there is done_is =
    let all : steps_of items ≡ path.total - first = ap steps_of items_are ∙ steps_part path.stretches.items first (path.total - first) (omega (arith, within, counted)) in
    let more = steps_more items n stretch there is in
    let few = no_more items (n + 1) in
    record {
      within = omega (arith, all, more, few, within, done_is);
      next = λ i h.
          let place : done + i ≡ first + (steps_of (take n items) + i) = omega (arith, done_is) in
          let inside : steps_of (take n items) + i < path.total - first = omega (arith, all, more, few, h) in
          ap (whose_at path.stretches.items) place ∙ sym (whose_part path.stretches.items first (path.total - first) (steps_of (take n items) + i) inside)
          ∙ ap (λ (l : List Stretch). whose_at l (steps_of (take n items) + i)) (sym items_are) ∙ whose_in items n stretch i there is h;
    }

pub turn_done : (items : List Stretch) (first done next n steps : ℕ) (stretch : Stretch) → n < length items → stretch ≡ slice_index_or items n stretch → done ≡ first + steps_of (take n items) → next ≡ done + steps → steps ≤ stretch.count → stretch.count ≤ steps
    → next ≡ first + steps_of (take (n + 1) items)
turn_done items first done next n steps stretch there is done_is next_is few all = let more = steps_more items n stretch there is in omega (arith, more, done_is, next_is, few, all)

-- the hart of the last step after some more of a turn
pub last_after : (old now : History) (stretch : Stretch) (taken steps before last : ℕ) → IsNext now.path now.done stretch → steps ≤ stretch.count → now.path.stretches.items ≡ old.path.stretches.items → now.done ≡ old.done + taken
    → before ≡ last_by taken old → (0 < steps → last ≡ next_hart (Some stretch.whose) 0) → (steps ≡ 0 → last ≡ before) → last ≡ last_by (taken + steps) old
last_after old now stretch taken zero before last next few path done so_far some none = none refl ∙ so_far ∙ ap (λ n. last_by n old) (omega arith)
last_after old now stretch taken (suc n) before last next few path done so_far some none =
    some (omega arith)
    ∙ ap (λ w. next_hart w 0) (sym (next.next n (omega (arith, few))))
    ∙ ap (λ (l : List Stretch). next_hart (whose_at l (now.done + n)) 0) path
    ∙ ap (λ k. next_hart (whose_at old.path.stretches.items k) 0) (omega (arith, done))
    ∙ ap (λ k. last_by k old) (sym (add-suc taken n))
