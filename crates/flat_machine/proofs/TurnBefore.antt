-- The live hart after whose step it is a hart's turn: there is one at most.
use Rattle.std.proofs.Common.{◌≡◌, ◌+◌, ◌-◌, ◌<◌, ◌≤◌, ℕ, suc, Bool, true, false, List, [], ◌∷◌, drop, slice_index_or, Option, Some, None, IsSome, unwrap_or, inl, inr, arith, refl, ap, sym, ◌∙◌, true≢false}
use Rattle.std.specs.List.{position_from}
use Rattle.std.specs.Option.{option_or}
use Rattle.std.proofs.lemmas.List.{get_or-drop}
use Rattle.std.proofs.lemmas.Bool.Decides.{eqb_tells, leb_tells}
use Rattle.env_calls.specs.Environment.{is_marked, least_live_from, next_live}
use Rattle.env_calls.proofs.LiveLaws.{next_is_some}
use Rattle.flat_machine.specs.Process.{Process, IsWhole, is_live}
use Rattle.flat_machine.specs.ByTurns.{turn_after}
use Rattle.flat_machine.proofs.StepLaws.{marked_within}

-- ---- the first mark of a list

first_at : (number : ℕ) (live : List Bool) (x : ℕ) → position_from is_marked number live ≡ Some x → number ≤ x
first_at number [] x e = cc
first_at number (true ∷ live) x e = let same : number ≡ x = cc in omega arith
first_at number (false ∷ live) x e = let rest = first_at (number + 1) live x e in omega arith

none_before : (number : ℕ) (live : List Bool) (x j : ℕ) → position_from is_marked number live ≡ Some x → number ≤ j → j < x → slice_index_or live (j - number) false ≡ false
none_before number [] x j e h l = cc
none_before number (true ∷ live) x j e h l = let same : number ≡ x = cc in absurd (omega arith)
none_before number (false ∷ live) x j e h l =
    elim (eqb_tells j number) [
      | inl same ↦ let index : j - number ≡ 0 = let is = same.1 in omega arith in ap (λ k. slice_index_or (false ∷ live) k false) index
      | inr apart ↦
          let more : number + 1 ≤ j = let differs = apart.1 in omega arith in
          let index : j - number ≡ suc (j - (number + 1)) = omega arith in
          ap (λ k. slice_index_or (false ∷ live) k false) index ∙ none_before (number + 1) live x j e more l
    ]

none_at_all : (number : ℕ) (live : List Bool) (j : ℕ) → position_from is_marked number live ≡ None → number ≤ j → slice_index_or live (j - number) false ≡ false
none_at_all number [] j e h = refl
none_at_all number (true ∷ live) j e h = cc
none_at_all number (false ∷ live) j e h =
    elim (eqb_tells j number) [
      | inl same ↦ let index : j - number ≡ 0 = let is = same.1 in omega arith in ap (λ k. slice_index_or (false ∷ live) k false) index
      | inr apart ↦
          let more : number + 1 ≤ j = let differs = apart.1 in omega arith in
          let index : j - number ≡ suc (j - (number + 1)) = omega arith in
          ap (λ k. slice_index_or (false ∷ live) k false) index ∙ none_at_all (number + 1) live j e more
    ]

-- ---- the least live hart from a number on

dropped : (number j : ℕ) (live : List Bool) → number ≤ j → slice_index_or live j false ≡ slice_index_or (drop number live) (j - number) false
dropped number j live h =
    let index : number + (j - number) ≡ j = omega arith in
    ap (λ k. slice_index_or live k false) (sym index) ∙ sym (get_or-drop number live (j - number) false)

least_at : (number : ℕ) (live : List Bool) (x : ℕ) → least_live_from number live ≡ Some x → number ≤ x
unfolding least_live_from
least_at number live x e = first_at number (drop number live) x e

dead_before : (number : ℕ) (live : List Bool) (x j : ℕ) → least_live_from number live ≡ Some x → number ≤ j → j < x → slice_index_or live j false ≡ false
unfolding least_live_from
dead_before number live x j e h l = dropped number j live h ∙ none_before number (drop number live) x j e h l

all_dead : (number : ℕ) (live : List Bool) (j : ℕ) → least_live_from number live ≡ None → number ≤ j → slice_index_or live j false ≡ false
unfolding least_live_from
all_dead number live j e h = dropped number j live h ∙ none_at_all number (drop number live) j e h

-- ---- two harts before one

alive : {A : Type 0} (live : List Bool) (hart : ℕ) → slice_index_or live hart false ≡ true → slice_index_or live hart false ≡ false → A
alive live hart lives dead = absurd (true≢false (sym lives ∙ dead))

-- what the lower of two live harts is before is not above the higher one
lower : (a b t : ℕ) (live : List Bool) (above least : Option ℕ) → a < b → slice_index_or live b false ≡ true → least_live_from (a + 1) live ≡ above → option_or above least ≡ Some t → (a < t) × (t ≤ b)
lower a b t live None least less lives e next = alive live b lives (all_dead (a + 1) live b e (omega arith))
lower a b t live (Some x) least less lives e next =
    let same : x ≡ t = cc in
    let from = least_at (a + 1) live x e in
    elim (leb_tells x b) [
      | inl within ↦ let l = within.1 in (omega arith, omega arith)
      | inr beyond ↦ alive live b lives (dead_before (a + 1) live x b e (omega arith) (let l = beyond.1 in omega arith))
    ]

-- what the higher of two live harts is before is above it, or not above the lower one
higher : (a b t : ℕ) (live : List Bool) (above least : Option ℕ) → a < b → slice_index_or live a false ≡ true → least_live_from (b + 1) live ≡ above → least_live_from 0 live ≡ least → option_or above least ≡ Some t
    → a < t → t ≤ b → ⊥
higher a b t live None least less lives e first next after within =
    alive live a lives (dead_before 0 live t a (first ∙ next) (omega arith) after)
higher a b t live (Some x) least less lives e first next after within =
    let same : x ≡ t = cc in
    let from = least_at (b + 1) live x e in
    omega arith

apart : (a b t : ℕ) (live : List Bool) → a < b → slice_index_or live a false ≡ true → slice_index_or live b false ≡ true → next_live a live ≡ Some t → next_live b live ≡ Some t → ⊥
unfolding next_live
apart a b t live less here there one other =
    let between = lower a b t live (least_live_from (a + 1) live) (least_live_from 0 live) less there refl one in
    higher a b t live (least_live_from (b + 1) live) (least_live_from 0 live) less here refl refl other between.0 between.1

next_to : (hart turn : ℕ) (process : Process) → IsWhole process → turn_after hart process ≡ turn → next_live hart process.environment.live ≡ Some turn
next_to hart turn process whole e = some_of (next_live hart process.environment.live) (next_is_some hart process.environment.live whole.some) e
  where
    some_of : (next : Option ℕ) → IsSome next → unwrap_or next hart ≡ turn → next ≡ Some turn
    some_of None some same = absurd (true≢false (sym some))
    some_of (Some x) some same = ap Some same

-- of two live harts only one comes before a hart
pub one_before : (a b turn : ℕ) (process : Process) → IsWhole process → is_live a process ≡ true → turn_after a process ≡ turn → is_live b process ≡ true → turn_after b process ≡ turn → a ≡ b
one_before a b turn process whole here one there other =
    elim (eqb_tells a b) [
      | inl same ↦ same.1
      | inr differs ↦
          elim (leb_tells a b) [
            | inl least ↦
                absurd (apart a b turn process.environment.live (let d = differs.1 in let l = least.1 in omega arith) here there (next_to a turn process whole one) (next_to b turn process whole other))
            | inr greatest ↦
                absurd (apart b a turn process.environment.live (let l = greatest.1 in omega arith) there here (next_to b turn process whole other) (next_to a turn process whole one))
          ]
    ]

-- none of the harts that are started comes before it: then none does
pub none_is : (hart turn : ℕ) (process : Process) → IsWhole process → ((below : ℕ) → below < 8 → is_live below process ≡ true → turn_after below process ≡ turn → ⊥) → is_live hart process ≡ true → turn_after hart process ≡ turn → ⊥
none_is hart turn process whole none lives is =
    let within = marked_within process.environment.live hart lives in
    let few = whole.few in
    none hart (omega arith) lives is
