-- What can be recorded, from step to step.
use Rattle.std.proofs.Common.{◌≡◌, ℕ, suc, ◌+◌, arith, [], ◌∷◌, ◌++◌, Some, subst, sym, ap, ◌∙◌, append_assoc, append-nil}
use Rattle.std.specs.Prelude.{◌↔◌}
use Rattle.debug_core.specs.Limits.{CannotRecord, KeepsRoom, Limit, RecordsOne}
use Rattle.debug_core.specs.Stops.{harts_before, moment_after, turn_in, Moment, RoomAfter}

both_ways : {A B C : Type 0} → A ↔ B → B ↔ C → A ↔ C
both_ways one other = ((λ a. other.0 (one.0 a)), (λ c. one.1 (other.1 c)))

pub room_twice : (old between new : Limit → Type 0) → KeepsRoom old between → KeepsRoom between new → KeepsRoom old new
room_twice old between new one other harts hart = both_ways (other harts hart) (one harts hart)

pub room_first : (limits : Limit → Type 0) (moment : Moment) → RoomAfter limits limits 0 moment
unfolding harts_before
room_first limits moment harts hart = ((λ f. f), (λ f. f))

pub room_more : (first now next : Limit → Type 0) (count : ℕ) (moment at : Moment) → moment_after count moment ≡ Some at → RoomAfter first now count moment → RecordsOne at.turn now next
    → RoomAfter first next (count + 1) moment
unfolding harts_before
room_more first now next count moment at reached room one harts hart =
    let more : suc count ≡ count + 1 = omega arith in
    let same : harts_before count moment ++ (at.turn ∷ harts) ≡ harts_before (count + 1) moment ++ harts =
    sym (append_assoc (harts_before count moment) (at.turn ∷ []) harts)
    ∙ ap (λ turn. (harts_before count moment ++ turn) ++ harts) (ap turn_in (sym reached))
    ∙ ap (λ k. harts_before k moment ++ harts) more in
    both_ways (one harts hart) (subst (λ l. now (CannotRecord (at.turn ∷ harts) hart) ↔ first (CannotRecord l hart)) same (room (at.turn ∷ harts) hart))

-- so the next step can be recorded where it can be at the moment
pub room_here : (first now : Limit → Type 0) (count : ℕ) (moment : Moment) (hart : ℕ) → RoomAfter first now count moment → now (CannotRecord [] hart) ↔ first (CannotRecord (harts_before count moment) hart)
room_here first now count moment hart room = subst (λ l. now (CannotRecord [] hart) ↔ first (CannotRecord l hart)) (append-nil (harts_before count moment)) (room [] hart)
