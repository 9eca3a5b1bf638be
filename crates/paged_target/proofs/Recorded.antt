-- What can still be recorded, by the schedule as it stands.
use Rattle.std.proofs.Common.{◌≡◌, ℕ, ◌<◌, Bool, true, false, List, [], ◌∷◌, ◌++◌, Option, None, Some, option_map, slice_get, nat_lt, sym, ap, ◌∙◌, subst, append_assoc, append-nil, arith}
use Rattle.std.specs.Prelude.{◌↔◌}
use Rattle.std.proofs.lemmas.Bool.Decides.{nat_tests}
use Rattle.debug_core.specs.Limits.{CannotRecord, KeepsRoom, RecordsOne}
use Rattle.flat_machine.specs.Schedule.{fits, room, written_out, IsJoined}
use Rattle.flat_machine.specs.declared.schedule.Turn.{Turn}
use Rattle.machine_core.specs.Machine.{CoreValue}
use Rattle.paged_target.specs.Lacks.{LacksOn, LeavesRoomFor}
use Rattle.paged_target.specs.Recording.{recorded, recorded_in, room_in, room_left, IsFull}
use Rattle.paged_target.specs.Serving.{added_by}
use Rattle.serial_driver.specs.declared.serving.ServedStep.{ServedStep}
use Rattle.serial_driver.specs.declared.serving.ServedStep.TheVariants.{Ran, Absent, Full, NoMemory}
use Rattle.paged_target.proofs.Joined.{one_schedule}
use Rattle.space_core.specs.StandsFor.{SpaceValue}

full_by : (turns : List Turn) (order : List ℕ) (hart : ℕ) → IsJoined turns → written_out turns ≡ order → room turns hart ≡ 0 → IsFull order hart
full_by turns order hart joined is none other joined' is' = ap (λ t. room t hart) (one_schedule other turns joined' joined (is' ∙ sym is)) ∙ none

roomy_by : (turns : List Turn) (order : List ℕ) (hart : ℕ) → IsJoined turns → written_out turns ≡ order → 0 < room turns hart → ¬ IsFull order hart
roomy_by turns order hart joined is some full = let none = full turns joined is in omega (arith, some, none)

some_room : (room : ℕ) → nat_lt 0 room ≡ true → 0 < room
some_room room some = grind (arith, nat_tests)

no_room : (room : ℕ) → nat_lt 0 room ≡ false → room ≡ 0
no_room room none = grind (arith, nat_tests)

same_way : {A : Type 0} (P : A → Type 0) (a b : A) → a ≡ b → P a ↔ P b
same_way P a b e = (subst P e, subst P (sym e))

-- ---- what a machine of one process lacks

pub keeps_room : (old new : CoreValue (List ℕ)) → recorded new ≡ recorded old → KeepsRoom (LacksOn old) (LacksOn new)
keeps_room old new same harts hart = same_way (λ l. IsFull (l ++ harts) hart) (recorded new) (recorded old) same

records_one : (ran : ℕ) (old new : CoreValue (List ℕ)) → recorded new ≡ recorded old ++ ran ∷ [] → RecordsOne ran (LacksOn old) (LacksOn new)
records_one ran old new more harts hart =
    same_way (λ l. IsFull l hart) (recorded new ++ harts) (recorded old ++ ran ∷ harts) (ap (λ l. l ++ harts) more ∙ append_assoc (recorded old) (ran ∷ []) harts)

pub room_after : (what : ServedStep) (hart : ℕ) (old new : CoreValue (List ℕ)) → recorded new ≡ recorded old ++ added_by what hart → LeavesRoomFor what hart old new
room_after Ran hart old new is = records_one hart old new is
room_after Absent hart old new is = keeps_room old new (is ∙ append-nil (recorded old))
room_after Full hart old new is = keeps_room old new (is ∙ append-nil (recorded old))
room_after NoMemory hart old new is = keeps_room old new (is ∙ append-nil (recorded old))

-- the next instruction stands behind all that is recorded
pub is_full : (core : CoreValue (List ℕ)) (turns : List Turn) (hart : ℕ) → IsJoined turns → written_out turns ≡ recorded core → room turns hart ≡ 0 → LacksOn core (CannotRecord [] hart)
is_full core turns hart joined is none = full_by turns (recorded core ++ []) hart joined (is ∙ sym (append-nil (recorded core))) none

pub is_roomy : (core : CoreValue (List ℕ)) (turns : List Turn) (hart : ℕ) → IsJoined turns → written_out turns ≡ recorded core → 0 < room turns hart → ¬ LacksOn core (CannotRecord [] hart)
is_roomy core turns hart joined is some = roomy_by turns (recorded core ++ []) hart joined (is ∙ sym (append-nil (recorded core))) some

recorded_by : (schedule : List Turn) (side : Option (SpaceValue (List ℕ))) → Some schedule ≡ option_map (λ (p : SpaceValue (List ℕ)). p.schedule) side → written_out schedule ≡ recorded_in side
recorded_by schedule None e = cc
recorded_by schedule (Some side) e = let is : schedule ≡ side.schedule = cc in ap written_out is

-- what a machine's schedule tells of one more instruction
pub fits_by : (core : CoreValue (List ℕ)) (schedule : List Turn) (hart : ℕ) (told : Bool) → IsJoined schedule → Some schedule ≡ option_map (λ (p : SpaceValue (List ℕ)). p.schedule) (slice_get core.processes 0)
    → told ≡ fits schedule hart → told ≡ true → ¬ LacksOn core (CannotRecord [] hart)
fits_by core schedule hart told joined at tells fit =
    is_roomy core schedule hart joined (recorded_by schedule (slice_get core.processes 0) at) (some_room (room schedule hart) (sym tells ∙ fit))

pub full_by_schedule : (core : CoreValue (List ℕ)) (schedule : List Turn) (hart : ℕ) (told : Bool) → IsJoined schedule → Some schedule ≡ option_map (λ (p : SpaceValue (List ℕ)). p.schedule) (slice_get core.processes 0)
    → told ≡ fits schedule hart → told ≡ false → LacksOn core (CannotRecord [] hart)
full_by_schedule core schedule hart told joined at tells unfit =
    is_full core schedule hart joined (recorded_by schedule (slice_get core.processes 0) at) (no_room (room schedule hart) (sym tells ∙ unfit))

left_by : (schedule : List Turn) (hart : ℕ) (side : Option (SpaceValue (List ℕ))) → Some schedule ≡ option_map (λ (p : SpaceValue (List ℕ)). p.schedule) side → room schedule hart ≡ room_in hart side
left_by schedule hart None e = cc
left_by schedule hart (Some side) e = let is : schedule ≡ side.schedule = cc in ap (λ s. room s hart) is

pub room_by : (core : CoreValue (List ℕ)) (schedule : List Turn) (hart : ℕ) (told : Bool) → Some schedule ≡ option_map (λ (p : SpaceValue (List ℕ)). p.schedule) (slice_get core.processes 0)
    → told ≡ fits schedule hart → told ≡ true → 0 < room_left hart core
room_by core schedule hart told at tells fit = subst (λ n. 0 < n) (left_by schedule hart (slice_get core.processes 0) at) (some_room (room schedule hart) (sym tells ∙ fit))
