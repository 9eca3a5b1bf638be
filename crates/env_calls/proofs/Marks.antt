-- Looking for a live hart, mark by mark.
use Rattle.std.proofs.Common.{◌≡◌, ◌<◌, ◌≤◌, ℕ, zero, suc, ◌+◌, Bool, true, false, cond, List, [], ◌∷◌, length, get_or, drop, take, set, Some, None, is_some, arith, refl, ap, sym, ◌∙◌, add-one, drop-cons}
use Rattle.std.specs.List.{list_any, position_from}
use Rattle.env_calls.specs.Environment.{is_marked, any_live, least_live_from}
use Rattle.env_calls.proofs.LiveLaws.{from_mark, least_none}

pub least_here : (number : ℕ) (live : List Bool) → number < length live → get_or live number false ≡ true → least_live_from number live ≡ Some number
least_here number live h marked = from_mark number live h ∙ ap (λ b. cond b (Some number) (position_from is_marked (number + 1) (drop (suc number) live))) marked

pub least_above : (number : ℕ) (live : List Bool) → number < length live → get_or live number false ≡ false → least_live_from number live ≡ least_live_from (number + 1) live
unfolding least_live_from
least_above number live h unmarked =
    from_mark number live h
    ∙ ap (λ b. cond b (Some number) (position_from is_marked (number + 1) (drop (suc number) live))) unmarked
    ∙ ap (λ n. position_from is_marked (number + 1) (drop n live)) (sym (add-one number))

pub ruleset looking_on = (least_here, least_above, least_none)

some_from : (number : ℕ) (live : List Bool) → is_some (position_from is_marked number live) ≡ list_any is_marked live
some_from number [] = refl
some_from number (true ∷ live) = refl
some_from number (false ∷ live) = some_from (number + 1) live

-- some hart is live where there is a least one
pub some_live : (live : List Bool) → is_some (least_live_from 0 live) ≡ any_live live
unfolding least_live_from any_live
some_live live = some_from 0 live

-- a mark among the first so many
pub take_without : (hart : ℕ) (count : ℕ) (marks : List Bool) → take count (set marks hart false) ≡ set (take count marks) hart false
take_without hart zero marks = refl
take_without hart (suc count) [] = refl
take_without zero (suc count) (x ∷ marks) = refl
take_without (suc hart) (suc count) (x ∷ marks) = ap (λ rest. x ∷ rest) (take_without hart count marks)
