-- Where a debugger stands on its path.
use Rattle.std.proofs.Common.{◌≡◌, ℕ, ◌+◌, ◌-◌, ◌<◌, ◌≤◌, Bool, true, false, List, [], ◌∷◌, filter, length, slice_index_or, All, get_or, Some, refl, sym, ap, ◌∙◌, subst, arith}
use Rattle.std.proofs.lemmas.List.Elements.{All-filter}
use Rattle.flat_machine.specs.Process.{Process, opening}
use Rattle.run_paths.specs.declared.path.Path.{Path}
use Rattle.run_paths.specs.declared.path.Stretch.{Stretch}
use Rattle.run_paths.specs.declared.path.Whose.{Whose}
use Rattle.run_paths.specs.declared.running.Place.{Place}
use Rattle.run_paths.specs.declared.program.Program.{Program}
use Rattle.guest_history.specs.declared.checkpoints.Checkpoint.{Checkpoint}
use Rattle.guest_history.specs.declared.checkpoints.Checkpoints.{Checkpoints}
use Rattle.guest_history.specs.declared.history.History.{History}
use Rattle.run_paths.specs.Extending.{AreSame, Extends}
use Rattle.run_paths.specs.Paths.{HasTurn, along, first_place, hart_of, part_of, step_by, step_of, steps_of, whose_at}
use Rattle.guest_history.specs.Checkpoints.{beginning, is_at_most, AreKept, IsKept}
use Rattle.guest_history.specs.Histories.{place_of, IsNear, Moves, Stands}
use Rattle.run_paths.proofs.Along.{along_none, along_more, along_behind, along_same, whose_here}
use Rattle.run_paths.proofs.Parts.{whose_part, steps_part}

-- checkpoints stay right on a path that has the same first steps
kept_along : (old new : List Stretch) (program : Program) (count total : ℕ) (checkpoint : Checkpoint) → AreSame count old new → checkpoint.done ≤ count → count ≤ total → IsKept program old count checkpoint → IsKept program new total checkpoint
kept_along old new program count total checkpoint same few more kept = record {
  led = along_same new old checkpoint.done (beginning program) (λ i h. same i (omega (arith, h, few))) ∙ kept.led;
  live = kept.live;
  within = omega (arith, few, more);
}

-- where no step was forgotten
kept_longer : (old new : Path) (program : Program) (done : ℕ) (whose : Whose) (count : ℕ) (checkpoints : List Checkpoint) → Extends old done whose count true new
    → All (IsKept program old.stretches.items old.total) checkpoints → All (IsKept program new.stretches.items new.total) checkpoints
kept_longer old new program done whose count checkpoints ext kept = λ k d h.
    let longer = ext.kept refl in
    let is = kept k d h in
    kept_along old.stretches.items new.stretches.items program old.total new.total (get_or checkpoints k d) longer.1 is.within longer.0 is

kept_on : (old : History) (whose : Whose) (count : ℕ) (is_kept : Bool) (path : Path) → is_kept ≡ true → Extends old.path old.done whose count is_kept path → AreKept old.program old.path.stretches.items old.path.total old.checkpoints
    → AreKept old.program path.stretches.items path.total old.checkpoints
kept_on old whose count is_kept path is ext kept = record {
  copies = kept_longer old.path path old.program old.done whose count old.checkpoints.copies.items (subst (λ b. Extends old.path old.done whose count b path) is ext) kept.copies;
  spaced = kept.spaced;
}

-- where the steps after so many were forgotten, and the checkpoints after more
kept_fewer : (old : History) (whose : Whose) (count : ℕ) (is_kept : Bool) (path : Path) (new : Checkpoints) → Extends old.path old.done whose count is_kept path → AreKept old.program old.path.stretches.items old.path.total old.checkpoints
    → new.copies.items ≡ filter (λ (c : Checkpoint). is_at_most old.done c.done) old.checkpoints.copies.items → All (λ (c : Checkpoint). c.done ≤ old.done) new.copies.items → new.spacing ≡ old.checkpoints.spacing
    → AreKept old.program path.stretches.items path.total new
kept_fewer old whose count is_kept path new ext kept are few spacing = record {
  copies = λ k d h.
      let is = subst (All (IsKept old.program old.path.stretches.items old.path.total)) (sym are) (All-filter (λ (c : Checkpoint). is_at_most old.done c.done) (IsKept old.program old.path.stretches.items old.path.total) old.checkpoints.copies.items kept.copies) k d h in
      let reached = ext.reached in
      kept_along old.path.stretches.items path.stretches.items old.program old.done path.total (get_or new.copies.items k d) ext.before (few k d h) (omega (arith, reached)) (record { led = is.led; live = is.live; within = few k d h });
  spaced = subst (λ n. 0 < n) (sym spacing) kept.spaced;
}

pub kept_followed : (old : History) (whose : Whose) (count : ℕ) (is_kept : Bool) (path : Path) (new : Checkpoints) → Extends old.path old.done whose count is_kept path → AreKept old.program old.path.stretches.items old.path.total old.checkpoints
    → (is_kept ≡ true → new ≡ old.checkpoints) → (is_kept ≡ false → new.copies.items ≡ filter (λ (c : Checkpoint). is_at_most old.done c.done) old.checkpoints.copies.items)
    → (is_kept ≡ false → All (λ (c : Checkpoint). c.done ≤ old.done) new.copies.items) → new.spacing ≡ old.checkpoints.spacing → AreKept old.program path.stretches.items path.total new
kept_followed old whose count true path new ext kept all are few spacing = subst (AreKept old.program path.stretches.items path.total) (sym (all refl)) (kept_on old whose count true path refl ext kept)
kept_followed old whose count false path new ext kept all are few spacing = kept_fewer old whose count false path new ext kept (are refl) (few refl) spacing

-- one more checkpoint, of what is shown
pub kept_here : (old : History) (place : Place) → Stands old → place ≡ place_of old.debugger → HasTurn place → IsKept old.program old.path.stretches.items old.path.total (record { place = place; done = old.done })
kept_here old place stands is live = record { led = stands.led ∙ ap Some (sym is); live = live; within = stands.within }

pub stands_with : (old : History) (checkpoints : Checkpoints) → Stands old → AreKept old.program old.path.stretches.items old.path.total checkpoints → Stands (record old { checkpoints = checkpoints })
stands_with old checkpoints stands kept = record {
  counted = stands.counted;
  within = stands.within;
  led = stands.led;
  points = stands.points;
  ranged = stands.ranged;
  kept = kept;
}

pub near_of : (history : History) (step number : ℕ) (near : Checkpoint) → Stands history → number < length history.checkpoints.copies.items → slice_index_or history.checkpoints.copies.items number near ≡ near
    → ((kept : Checkpoint) → (slice_index_or history.checkpoints.copies.items number kept).done ≤ step) → IsNear history step near
near_of history step number near stands within is before =
    let kept = subst (IsKept history.program history.path.stretches.items history.path.total) is (stands.kept.copies number near within) in
    record { led = kept.led; live = kept.live; before = subst (λ (c : Checkpoint). c.done ≤ step) is (before near) }

pub stands_on : (old : History) (whose : Whose) (count : ℕ) (is_kept : Bool) (path : Path) (checkpoints : Checkpoints) → Moves old whose count → Extends old.path old.done whose count is_kept path
    → AreKept old.program path.stretches.items path.total checkpoints
    → Stands (record { program = old.program; path = path; is_recorded = old.is_recorded; done = old.done + count; points = old.points; debugger = old.debugger; checkpoints = checkpoints })
stands_on old whose count is_kept path checkpoints moves ext kept =
    let there = along_same path.stretches.items old.path.stretches.items old.done (beginning old.program) ext.before ∙ moves.led in
    let split = along_behind (record { whose = whose; count = count } ∷ []) path.stretches.items old.done count (beginning old.program) moves.at there
    (λ i h. whose_here (record { whose = whose; count = count }) [] i h ∙ sym (ext.added i h)) in
    record {
      counted = ext.counted;
      within = ext.reached;
      led = sym split ∙ moves.moved;
      points = moves.points;
      ranged = moves.ranged;
      kept = kept;
    }

pub led_near : (history : History) (step : ℕ) (near : Checkpoint) (part : List Stretch) (place : Place) → Stands history → step ≤ history.path.total → IsNear history step near
    → part ≡ part_of history.path.stretches.items near.done (step - near.done) → along part (steps_of part) near.place ≡ Some place → along history.path.stretches.items step (beginning history.program) ≡ Some place
led_near history step near part place stands known is part_is led =
    let before = is.before in
    let counted = stands.counted in
    let path = history.path.stretches.items in
    let count = step - near.done in
    let all : steps_of part ≡ count = ap steps_of part_is ∙ steps_part path near.done count (omega (arith, known, before, counted)) in
    let end : near.done + count ≡ step = omega (arith, before) in
    let there : along part count near.place ≡ Some place = ap (λ n. along part n near.place) (sym all) ∙ led in
    ap (λ n. along path n (beginning history.program)) (sym end)
    ∙ sym (along_behind part path near.done count (beginning history.program) near.place is.led (λ i h. ap (λ (l : List Stretch). whose_at l i) part_is ∙ whose_part path near.done count i h))
    ∙ there

pub led_first : (path : List Stretch) (program : Program) (process : Process) (place : Place) → process ≡ opening program.image program.input.items → place ≡ first_place process → along path 0 (beginning program) ≡ Some place
led_first path program process place is place_is = along_none path (beginning program) ∙ ap Some (sym (place_is ∙ ap first_place is))

pub led_one : (path : List Stretch) (step : ℕ) (whose : Whose) (first place next : Place) → ¬ (step ≡ 0) → along path (step - 1) first ≡ Some place → Some whose ≡ whose_at path (step - 1) → step_of (hart_of whose place.turn) place ≡ Some next
    → along path step first ≡ Some next
led_one path step whose first place next some led is stepped =
    let end : step - 1 + 1 ≡ step = omega (arith, some) in
    ap (λ n. along path n first) (sym end) ∙ along_more path (step - 1) first place led ∙ ap (λ w. step_by w place) (sym is) ∙ stepped
