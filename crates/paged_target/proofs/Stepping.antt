-- What events that serve a hart make of the flat process.
use Rattle.std.proofs.Common.{◌≡◌, ℕ, true, ◌&&◌, List, [], ◌∷◌, ◌++◌, Some, None, IsSome, slice_get, refl, sym, ap, ◌∙◌, subst, append_assoc, append-nil}
use Rattle.std.specs.Prelude.{◌==◌, if◌then◌else◌, option_and_then}
use Rattle.elf_image.specs.Image.{ImageContent}
use Rattle.flat_machine.specs.Process.{Process, opening, flat_run, flat_step}
use Rattle.flat_machine.proofs.RunLaws.{flat_run_append}
use Rattle.flat_machine.specs.Schedule.{written_out}
use Rattle.space_core.specs.StandsFor.{SpaceValue}
use Rattle.machine_core.specs.Faithful.{IsFaithful}
use Rattle.machine_core.specs.Headline.{adds, has_run, GoesOn, Remains}
use Rattle.machine_core.specs.Machine.{CoreValue}
use Rattle.machine_core.specs.declared.error.EventRefusal.{EventRefusal}
use Rattle.machine_core.specs.declared.event.Event.{Event}
use Rattle.machine_core.specs.declared.event.Event.TheVariants.{Step}
use Rattle.machine_core.specs.declared.event.Reply.{Reply}
use Rattle.machine_core.specs.declared.event.Reply.TheVariants as reply
use Rattle.serial_driver.specs.Serving.{Serves}
use Rattle.serial_driver.specs.declared.serving.ServedStep.{ServedStep}
use Rattle.serial_driver.specs.declared.serving.ServedStep.TheVariants as served
use Rattle.debug_core.specs.Limits.{KeepsRoom}
use Rattle.paged_target.specs.Lacks.{LacksOn}
use Rattle.paged_target.specs.Recording.{recorded, recorded_in}
use Rattle.paged_target.specs.Serving.{added_by, ServesFlat}
use Rattle.paged_target.specs.Shown.{flat_at}
use Rattle.paged_target.proofs.Recorded.{keeps_room}
use Rattle.paged_target.proofs.Showing.{ShowsFlat, shows_flat}

step_of : (hart : ℕ) (old new : Process) → flat_run (hart ∷ []) old ≡ Some new → flat_step hart old ≡ Some new
unfolding flat_run
step_of hart old new e =
    elim (flat_step hart old) as (λ o. option_and_then (flat_run []) o ≡ Some new → o ≡ Some new) [
      | None ↦ λ f. f
      | Some next ↦ λ f. f
    ] e

none_of : (old new : Process) → flat_run [] old ≡ Some new → new ≡ old
unfolding flat_run
none_of old new e = cc

refused_quiet : (event : Event) (number : ℕ) (why : EventRefusal) → adds number event (reply.Refused why) ≡ []
refused_quiet (Step process hart) number why = refl
refused_quiet _ number why = refl

module _ {S : Type 0} where
  goes_then : (first second : List ℕ) (old between new : SpaceValue S) → GoesOn first old between → GoesOn second between new → GoesOn (first ++ second) old new
  goes_then first second old between new one other = record {
    image = other.image ∙ one.image;
    input = other.input ∙ one.input;
    recorded = other.recorded ∙ ap (λ l. l ++ second) one.recorded ∙ append_assoc (written_out old.schedule) first second;
  }

  -- one process that remains twice
  remains_then : (number : ℕ) (first second : List ℕ) (between new : List (SpaceValue S)) (old : SpaceValue S) → (one : Remains number first between old) → Remains number second new one.process → Remains number (first ++ second) new old
  remains_then number first second between new old one other =
      record { process = other.process; found = other.found; goes_on = goes_then first second old one.process other.process one.goes_on other.goes_on }

  pub remains_there : (added : List ℕ) (new : CoreValue S) (side : SpaceValue S) → Remains 0 added new.processes side → IsSome (slice_get new.processes 0)
  remains_there added new side remains = subst IsSome (sym remains.found) cc

  -- ---- the flat process

  module _ (held : S → List ℕ) where
    ran_is : (core : CoreValue S) (shows : ShowsFlat held core) → flat_run (written_out shows.side.schedule) (opening shows.side.image shows.side.input) ≡ Some (flat_at core)
    ran_is core shows = shows.stands.ran ∙ ap Some (sym shows.flat)

    goes_runs : (added : List ℕ) (old new : CoreValue S) (shows : ShowsFlat held old) (shows' : ShowsFlat held new) → GoesOn added shows.side shows'.side
        → flat_run added (flat_at old) ≡ Some (flat_at new)
    goes_runs added old new shows shows' goes =
        let image = goes.image in
        let input = goes.input in
        let same : flat_run (written_out shows'.side.schedule) (opening shows'.side.image shows'.side.input) ≡ flat_run (written_out shows.side.schedule ++ added) (opening shows.side.image shows.side.input) =
        ap (λ l. flat_run l (opening shows'.side.image shows'.side.input)) goes.recorded
        ∙ ap (λ (i : ImageContent). flat_run (written_out shows.side.schedule ++ added) (opening i shows'.side.input)) image
        ∙ ap (λ l. flat_run (written_out shows.side.schedule ++ added) (opening shows.side.image l)) input in
        sym (flat_run_append (written_out shows.side.schedule) added (opening shows.side.image shows.side.input) (flat_at old) (ran_is old shows))
        ∙ sym same ∙ ran_is new shows'

    pub remains_runs : (added : List ℕ) (old new : CoreValue S) (shows : ShowsFlat held old) → ShowsFlat held new → Remains 0 added new.processes shows.side → flat_run added (flat_at old) ≡ Some (flat_at new)
    remains_runs added old new shows shows' remains =
        let same : remains.process ≡ shows'.side = let a = remains.found in let b = shows'.found in cc in
        goes_runs added old new shows shows' (subst (λ (p : SpaceValue S). GoesOn added shows.side p) same remains.goes_on)

    pub remains_same : (old new : CoreValue S) (shows : ShowsFlat held old) → ShowsFlat held new → Remains 0 [] new.processes shows.side → flat_at new ≡ flat_at old
    remains_same old new shows shows' remains = none_of (flat_at old) (flat_at new) (remains_runs [] old new shows shows' remains)

    remains_steps : (hart : ℕ) (old new : CoreValue S) (shows : ShowsFlat held old) → ShowsFlat held new → Remains 0 (hart ∷ []) new.processes shows.side → flat_step hart (flat_at old) ≡ Some (flat_at new)
    remains_steps hart old new shows shows' remains = step_of hart (flat_at old) (flat_at new) (remains_runs (hart ∷ []) old new shows shows' remains)

  -- ---- an instruction that was served

  module _ (held : S → List ℕ) (honest : Type 0) (failures : S → ℕ) where
    ran_adds : (hart : ℕ) (answer : Reply) → has_run answer ≡ true → adds 0 (Step 0 hart) answer ≡ hart ∷ []
    ran_adds hart answer ran = ap (λ b. if b && (0 == 0) then hart ∷ [] else []) ran

    serves_remains : (hart : ℕ) (what : ServedStep) (old new : CoreValue S) (side : SpaceValue S) → Serves held honest failures 0 hart what old new → slice_get old.processes 0 ≡ Some side
        → Remains 0 (added_by what hart) new.processes side
    serves_remains hart served.Ran old new side serves at =
        let brought = serves.brings.remains 0 side at in
        let last = serves.ends.1.1.invisible.recorded 0 brought.process brought.found in
        remains_then 0 [] (hart ∷ []) serves.between.processes new.processes side brought
        (subst (λ l. Remains 0 l new.processes brought.process) (ran_adds hart serves.ends.0 serves.ends.1.0) last)
    serves_remains hart served.Absent old new side serves at =
        let brought = serves.brings.remains 0 side at in
        subst (λ (c : CoreValue S). Remains 0 [] c.processes side) (sym serves.ends) brought
    serves_remains hart served.Full old new side serves at =
        let brought = serves.brings.remains 0 side at in
        remains_then 0 [] [] serves.between.processes new.processes side brought (serves.ends.invisible.recorded 0 brought.process brought.found)
    serves_remains hart served.NoMemory old new side serves at =
        let brought = serves.brings.remains 0 side at in
        let last = serves.ends.happens.invisible.recorded 0 brought.process brought.found in
        let quiet : adds 0 serves.ends.event serves.ends.reply ≡ [] = ap (adds 0 serves.ends.event) serves.ends.answer ∙ refused_quiet serves.ends.event 0 _ in
        remains_then 0 [] [] serves.between.processes new.processes side brought (subst (λ l. Remains 0 l new.processes brought.process) quiet last)

    by_kind : (hart : ℕ) (what : ServedStep) (old new : CoreValue S) (shows : ShowsFlat held old) → ShowsFlat held new → Remains 0 (added_by what hart) new.processes shows.side → ServesFlat what hart (flat_at old) (flat_at new)
    by_kind hart served.Ran old new shows shows' remains = remains_steps held hart old new shows shows' remains
    by_kind hart served.Absent old new shows shows' remains = remains_same held old new shows shows' remains
    by_kind hart served.Full old new shows shows' remains = remains_same held old new shows shows' remains
    by_kind hart served.NoMemory old new shows shows' remains = remains_same held old new shows shows' remains

    pub serves_there : (hart : ℕ) (what : ServedStep) (old new : CoreValue S) (shows : ShowsFlat held old) → Serves held honest failures 0 hart what old new → IsSome (slice_get new.processes 0)
    serves_there hart what old new shows serves = remains_there (added_by what hart) new shows.side (serves_remains hart what old new shows.side serves shows.found)

    pub serves_flat : (hart : ℕ) (what : ServedStep) (old new : CoreValue S) (shows : ShowsFlat held old) → honest → IsFaithful held honest new → Serves held honest failures 0 hart what old new
        → ServesFlat what hart (flat_at old) (flat_at new)
    serves_flat hart what old new shows is_honest faithful serves =
        by_kind hart what old new shows (shows_flat held honest new is_honest faithful (serves_there hart what old new shows serves))
        (serves_remains hart what old new shows.side serves shows.found)

    pub serves_recorded : (hart : ℕ) (what : ServedStep) (old new : CoreValue S) (shows : ShowsFlat held old) → Serves held honest failures 0 hart what old new → recorded new ≡ recorded old ++ added_by what hart
    serves_recorded hart what old new shows serves =
        let remains = serves_remains hart what old new shows.side serves shows.found in
        ap recorded_in remains.found ∙ remains.goes_on.recorded ∙ ap (λ o. recorded_in o ++ added_by what hart) (sym shows.found)

-- what an ending by the machine leaves to be recorded
pub remains_room : (held : List ℕ → List ℕ) (old new : CoreValue (List ℕ)) (shows : ShowsFlat held old) → Remains 0 [] new.processes shows.side → KeepsRoom (LacksOn old) (LacksOn new)
remains_room held old new shows remains =
    keeps_room old new (ap recorded_in remains.found ∙ remains.goes_on.recorded ∙ append-nil (written_out shows.side.schedule) ∙ ap recorded_in (sym shows.found))
