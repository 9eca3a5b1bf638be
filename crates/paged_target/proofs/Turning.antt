-- Looking for a live hart, number by number.
use Rattle.std.proofs.Common.{◌≡◌, ◌<◌, ◌≤◌, ℕ, zero, suc, ◌+◌, Bool, true, false, cond, List, [], ◌∷◌, length, get_or, drop, Option, Some, None, slice_get, slice_index_or, arith, inl, inr, refl, ap, sym, ◌∙◌, add-one, drop-cons}
use Rattle.std.proofs.lemmas.Bool.Decides.{leb_tells}
use Rattle.std.specs.List.{position_from}
use Rattle.env_calls.specs.Environment.{is_marked, least_live_from}
use Rattle.env_calls.proofs.LiveLaws.{from_mark, least_none}
use Rattle.machine_core.specs.Machine.{CoreValue}
use Rattle.machine_core.specs.Reading.{is_live_in}
use Rattle.paged_target.specs.Marks.{marks_at, marks_in}
use Rattle.space_core.specs.StandsFor.{SpaceValue}

-- a mark that is not there is not set
pub mark_is : {S : Type 0} (core : CoreValue S) (hart : ℕ) → is_live_in (slice_get core.processes 0) hart ≡ slice_index_or (marks_at core) hart false
mark_is core hart = by (slice_get core.processes 0)
  where
    by : {S : Type 0} (side : Option (SpaceValue S)) → is_live_in side hart ≡ slice_index_or (marks_in side) hart false
    by None = refl
    by (Some side) = refl

marked_below : (live : List Bool) (number : ℕ) → slice_index_or live number false ≡ true → number < length live
marked_below [] number e = cc
marked_below (mark ∷ live) zero e = omega arith
marked_below (mark ∷ live) (suc number) e = let rest = marked_below live number e in omega arith

pub least_here : (number : ℕ) (live : List Bool) → slice_index_or live number false ≡ true → least_live_from number live ≡ Some number
least_here number live marked =
    from_mark number live (marked_below live number marked) ∙ ap (λ b. cond b (Some number) (position_from is_marked (number + 1) (drop (suc number) live))) marked

pub least_above : (number : ℕ) (live : List Bool) → slice_index_or live number false ≡ false → least_live_from number live ≡ least_live_from (number + 1) live
unfolding least_live_from
least_above number live unmarked =
    elim (leb_tells (length live) number) [
      | inl past ↦ let after : length live ≤ number + 1 = let h = past.1 in omega (arith, h) in least_none number live past.1 ∙ sym (least_none (number + 1) live after)
      | inr within ↦
          from_mark number live within.1
          ∙ ap (λ b. cond b (Some number) (position_from is_marked (number + 1) (drop (suc number) live))) unmarked
          ∙ ap (λ n. position_from is_marked (number + 1) (drop n live)) (sym (add-one number))
    ]
