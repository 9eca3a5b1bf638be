-- The first watch that is hit, where all are looked at.
use Rattle.std.proofs.Common.{◌≡◌, ℕ, ◌+◌, ◌<◌, ◌≤◌, Bool, true, false, List, length, drop, slice_index_or, Option, Some, None, sym}
use Rattle.std.specs.Option.{option_or}
use Rattle.std.specs.List.{position_from}
use Rattle.debug_core.proofs.Watching.{position_stops, position_goes_on, position_ends}
use Rattle.run_paths.specs.Meeting.{first_hit}

pub hit_goes_on : {A : Type 0} (test : A → Bool) (i : ℕ) (points : List A) (d : A) (hit : Option ℕ) (is_hit : Bool) → i < length points
    → option_or hit (position_from test i (drop i points)) ≡ position_from test 0 points → test (slice_index_or points i d) ≡ is_hit
    → option_or (first_hit hit i is_hit) (position_from test (i + 1) (drop (i + 1) points)) ≡ position_from test 0 points
hit_goes_on test i points d (Some number) is_hit h rest is = rest
hit_goes_on test i points d None true h rest is = position_stops test i points d h (sym rest) is
hit_goes_on test i points d None false h rest is = sym (position_goes_on test i points d h (sym rest) is)

pub hit_ends : {A : Type 0} (test : A → Bool) (i : ℕ) (points : List A) (hit : Option ℕ) → length points ≤ i
    → option_or hit (position_from test i (drop i points)) ≡ position_from test 0 points → hit ≡ position_from test 0 points
hit_ends test i points (Some number) all rest = rest
hit_ends test i points None all rest = position_ends test i points all (sym rest)
