-- How the search for a place goes on.
use Rattle.std.proofs.Common.{◌≡◌, ℕ, suc, ◌+◌, ◌-◌, ◌<◌, ◌≤◌, true, false, List, Some, None, cond, arith, refl, ap, ◌∙◌}
use Rattle.flat_machine.specs.Process.{Process}
use Rattle.guest_strings.specs.Slices.{first_place, may_run}

left_is : (from below : ℕ) → from < below → below - from ≡ suc (below - (from + 1))
left_is from below h = omega arith

one : (count place : ℕ) (processes : List Process) → first_place (suc count) place processes ≡ cond (may_run place processes) (Some place) (first_place count (place + 1) processes)
unfolding first_place
one count place processes = refl

-- this one may
pub place_found : (place below : ℕ) (processes : List Process) → place < below → may_run place processes ≡ true → first_place (below - place) place processes ≡ Some place
place_found place below processes h may =
    ap (λ n. first_place n place processes) (left_is place below h) ∙ one (below - (place + 1)) place processes
    ∙ ap (λ b. cond b (Some place) (first_place (below - (place + 1)) (place + 1) processes)) may

-- this one may not
pub place_passed : (place below : ℕ) (processes : List Process) → place < below → may_run place processes ≡ false
    → first_place (below - place) place processes ≡ first_place (below - (place + 1)) (place + 1) processes
place_passed place below processes h may =
    ap (λ n. first_place n place processes) (left_is place below h) ∙ one (below - (place + 1)) place processes
    ∙ ap (λ b. cond b (Some place) (first_place (below - (place + 1)) (place + 1) processes)) may

-- none is left
pub no_place : (place below : ℕ) (processes : List Process) → below ≤ place → first_place (below - place) place processes ≡ None
unfolding first_place
no_place place below processes h = let none : below - place ≡ 0 = omega arith in ap (λ n. first_place n place processes) none
