-- No event that serves a hart gives a page back or ends a process.
use Rattle.std.proofs.Common.{◌≡◌, ◌∙◌, ℕ, zero, suc, ◌+◌, ◌<◌, List, [], ◌∷◌, length, replicate, Option, Some, None, IsSome, slice_get, inl, inr, ap, refl, sym, subst, append-nil, arith}
use Rattle.std.specs.Prelude.{All, option_and_then, slice_set}
use Rattle.std.proofs.lemmas.List.{length-append, length-replicate}
use Rattle.std.proofs.lemmas.List.Elements.{All-head, All-tail}
use Rattle.clock_policy.specs.declared.answer.Bit.{Bit}
use Rattle.clock_policy.specs.declared.answer.Bit.TheVariants.{Zero, One, Gone}
use Rattle.clock_policy.specs.declared.answer.Verdict.{Verdict}
use Rattle.clock_policy.specs.declared.answer.Verdict.TheVariants as verdict
use Rattle.clock_policy.specs.declared.key.Key.{Key}
use Rattle.elf_image.specs.Image.{ImageContent}
use Rattle.elf_image.specs.Start.{Start, start_of}
use Rattle.flat_machine.specs.Process.{opening, opening_pages}
use Rattle.flat_machine.specs.Schedule.{room, written_out}
use Rattle.flat_machine.specs.declared.end.End.{End}
use Rattle.flat_machine.specs.declared.end.KillCause.{KillCause}
use Rattle.machine_core.specs.Applying.{Applies, Runs, ServesEvent}
use Rattle.machine_core.specs.CollectEvent.{CollectsTo, CollectsOnce, not_yet, freed, dirty, no_slot}
use Rattle.machine_core.specs.Machine.{CoreValue}
use Rattle.machine_core.specs.MachineRun.{step_reply, ChangesOne, RefusesEvent, StepsHart, SweepsOnce}
use Rattle.machine_core.specs.Opening.{AllBegin}
use Rattle.machine_core.specs.PagingIn.{PagesInOnce}
use Rattle.machine_core.specs.SavingOut.{EndsSaving, SavesOnce}
use Rattle.machine_core.proofs.TotalLaws.{get_set_other, get_set_same}
use Rattle.machine_core.specs.declared.error.EventRefusal.{EventRefusal}
use Rattle.machine_core.specs.declared.event.Event.{Event}
use Rattle.machine_core.specs.declared.event.Event.TheVariants.{Step, Notice, Sweep, Collect, Saved, PageIn, Kill, Purge, Clean, Copy, Cleaned}
use Rattle.machine_core.specs.declared.event.Reply.{Reply}
use Rattle.machine_core.specs.declared.event.Reply.TheVariants.{Refused, ScheduleFull}
use Rattle.machine_sides.specs.ProcessCalls.{StepsOnce}
use Rattle.machine_sides.specs.Sides.{PagerSideValue}
use Rattle.machine_sides.specs.Sweeping.{HeedsVerdict, ReadsBit}
use Rattle.page_store.specs.JobValue.{SavedValue}
use Rattle.page_store.specs.declared.state.PageState.TheVariants.{Purged}
use Rattle.paged_memory.proofs.IntactLaws.{again_none, backing_none, comes_none, copied_none, emptied_none, forgets_none, fresh_none, leaves_none, mapped_none, noticed_none, refuses_none, saved_none, used_none}
use Rattle.paged_memory.specs.access.Notices.{noticed}
use Rattle.paged_memory.specs.Paged.{PagedValue}
use Rattle.paged_memory.specs.Whole.{stage_in}
use Rattle.paged_memory.specs.access.Using.{LacksIn}
use Rattle.serial_driver.specs.Serving.{BringsIn, Serves, ServesHart}
use Rattle.serial_driver.specs.declared.serving.ServedStep.{ServedStep}
use Rattle.serial_driver.specs.declared.serving.ServedStep.TheVariants as served
use Rattle.space_core.specs.Caches.{if_killed}
use Rattle.space_core.specs.RunningValue.{RunningValue}
use Rattle.space_core.specs.Slices.{StopsRecorded}
use Rattle.space_core.specs.Slicing.{shown_process}
use Rattle.space_core.specs.StandsFor.{SpaceValue, own_ending}
use Rattle.space_core.specs.declared.progress.SliceStop.{SliceStop}
use Rattle.space_core.specs.declared.progress.SliceStop.TheVariants as stop
use Rattle.paged_target.specs.Intact.{IsIntact, IsUnkilled, IsUnkilledIn}
use Rattle.paged_target.specs.Recording.{room_in, room_left}
use Rattle.paged_target.specs.Shown.{stage_of, stage_shown}
use Rattle.paged_target.proofs.Unkilled.{own_run}

same_sum : (room length room' length' ran : ℕ) → room' + ran ≡ room → length' ≡ length + ran → room' + length' ≡ room + length
same_sum room length room' length' ran left more = omega (arith, left, more)

no_room : (room ran : ℕ) → ran ≡ room → ran < 1 → room ≡ 0
no_room room ran same few = omega (arith, same, few)

none_before : (room length room' length' : ℕ) → room' + length' ≡ room + length → length' ≡ length → room' ≡ 0 → room ≡ 0
none_before room length room' length' all same none = omega (arith, all, same, none)

some_is : {A : Type 0} (x y : A) → Some x ≡ Some y → x ≡ y
some_is x y e = cc

module _ {S : Type 0} (hart : ℕ) where
  -- each page that counts as given back did
  abbrev GivesNone : PagedValue S → PagedValue S → Type 0
  GivesNone old new = (number : ℕ) → stage_in new number ≡ Some Purged → stage_in old number ≡ Some Purged

  -- how many instructions there can be in all, if those to come are of this hart
  abbrev all_of : SpaceValue S → ℕ
  all_of side = room side.schedule hart + length (written_out side.schedule)

  -- a process gives no page back, and is not ended by the machine; only what is recorded takes room
  record Stays (old new : SpaceValue S) : Type 0 where
    pub none : GivesNone old.memory new.memory
    pub own : own_ending old.running.ending ≡ old.running.ending → own_ending new.running.ending ≡ new.running.ending
    pub all : all_of new ≡ all_of old

  stays_same : (old new : SpaceValue S) → new ≡ old → Stays old new
  stays_same old new same = subst (λ (p : SpaceValue S). Stays old p) (sym same) (record { none = λ number given. given; own = λ own. own; all = refl })

  stays_then : (old between new : SpaceValue S) → Stays old between → Stays between new → Stays old new
  stays_then old between new first second =
      record { none = λ number given. first.none number (second.none number given); own = λ own. second.own (first.own own); all = second.all ∙ first.all }

  -- its memory moves alone
  beside : (old new : SpaceValue S) → GivesNone old.memory new.memory → new ≡ record old { memory = new.memory } → Stays old new
  beside old new none stays = record {
    none = none;
    own = λ own. subst (λ (p : SpaceValue S). own_ending p.running.ending ≡ p.running.ending) (sym stays) own;
    all = ap all_of stays;
  }

  -- ---- the first process of a list

  record StaysAs (new : List (SpaceValue S)) (side : SpaceValue S) : Type 0 where
    pub side' : SpaceValue S
    pub found : slice_get new 0 ≡ Some side'
    pub stays : Stays side side'

  abbrev FirstStays : List (SpaceValue S) → List (SpaceValue S) → Type 0
  FirstStays old new = (side : SpaceValue S) → slice_get old 0 ≡ Some side → StaysAs new side

  first_same : (old new : List (SpaceValue S)) → new ≡ old → FirstStays old new
  first_same old new same side at = record { side' = side; found = ap (λ l. slice_get l 0) same ∙ at; stays = stays_same side side refl }

  first_then : (old between new : List (SpaceValue S)) → FirstStays old between → FirstStays between new → FirstStays old new
  first_then old between new first second side at =
      let one = first side at in
      let two = second one.side' one.found in
      record { side' = two.side'; found = two.found; stays = stays_then side one.side' two.side' one.stays two.stays }

  first_one : (number : ℕ) (old new : List (SpaceValue S)) (process process' : SpaceValue S) → slice_get old number ≡ Some process → new ≡ slice_set old number process' → Stays process process' → FirstStays old new
  first_one zero old new process process' found is stays side at = record {
    side' = process';
    found = ap (λ l. slice_get l 0) is ∙ get_set_same old 0 process process' found;
    stays = subst (λ (p : SpaceValue S). Stays p process') (some_is process side (sym found ∙ at)) stays;
  }
  first_one (suc number) old new process process' found is stays side at = record {
    side' = side;
    found = ap (λ l. slice_get l 0) is ∙ get_set_other old (suc number) 0 process' (λ e. cc) ∙ at;
    stays = stays_same side side refl;
  }

  first_changed : {by : SpaceValue S → SpaceValue S → Type 0} (number : ℕ) (old new : List (SpaceValue S)) → ((p p' : SpaceValue S) → by p p' → Stays p p') → ChangesOne by number old new → FirstStays old new
  first_changed number old new stays one = first_one number old new one.process one.process' one.found one.is (stays one.process one.process' one.how)

  -- ---- one event

  refused_stays : (reason : Option EventRefusal) (old new : CoreValue S) (reply : Reply) → RefusesEvent reason old new reply → FirstStays old.processes new.processes
  refused_stays reason old new reply refuses = first_same old.processes new.processes (ap (λ (c : CoreValue S). c.processes) refuses.stays)

  noticed_stays : (h : ℕ) (old new : SpaceValue S) → new ≡ record old { memory = noticed h old.memory } → Stays old new
  noticed_stays h old new is =
      subst (λ (p : SpaceValue S). Stays old p) (sym is) (record { none = noticed_none h old.memory; own = λ own. own; all = refl })

  bit_stays : (bit : Bit) (vpn : ℕ) (old new : SpaceValue S) → ReadsBit bit vpn old new → Stays old new
  bit_stays Gone vpn old new read = stays_same old new read
  bit_stays Zero vpn old new read = beside old new (forgets_none vpn old.memory new.memory read.moves) read.stays
  bit_stays One vpn old new read = beside old new (forgets_none vpn old.memory new.memory read.moves) read.stays

  verdict_stays : (what : Verdict) (vpn : ℕ) (old new : SpaceValue S) → HeedsVerdict what vpn old new → Stays old new
  verdict_stays verdict.GoOn vpn old new heeds = stays_same old new heeds
  verdict_stays (verdict.Victim key) vpn old new heeds = beside old new (leaves_none vpn old.memory new.memory heeds.moves) heeds.stays

  sweep_stays : (old new : CoreValue S) (reply : Reply) → SweepsOnce old new reply → FirstStays old.processes new.processes
  sweep_stays old new reply once =
      first_one once.key.process old.processes new.processes once.process once.process' once.found once.processes
      (stays_then once.process once.answers.between once.process' (bit_stays once.bit once.key.vpn once.process once.answers.between once.answers.read)
      (verdict_stays once.verdict once.key.vpn once.answers.between once.process' once.answers.heeded))

  looked_stays : (vpn : ℕ) (old new : CoreValue S) (process process' : SpaceValue S) (answer : Reply) → CollectsTo vpn old new process process' answer → Stays process process'
  looked_stays vpn old new process process' answer (not_yet how jobs told) = stays_same process process' how.stays.process_stays
  looked_stays vpn old new process process' answer (freed how jobs told) =
      beside process process' (backing_none vpn how.frame process.memory process'.memory how.drops.moves) how.drops.stays
  looked_stays vpn old new process process' answer (dirty job how jobs told) =
      beside process process' (copied_none vpn job process.memory process'.memory how.saving.moves) how.saving.stays
  looked_stays vpn old new process process' answer (no_slot how jobs told) =
      beside process process' (mapped_none vpn process.memory process'.memory how.returns.mapped.moves) how.returns.mapped.stays

  module _ (held : S → List ℕ) (honest : Type 0) where
    step_stays : (why : SliceStop) (old new : SpaceValue S) → StepsOnce held honest hart why old new → Stays old new
    step_stays why old new once =
        let left = once.slice.left in
        let more = ap length once.slice.recorded ∙ length-append (written_out old.schedule) (replicate once.ran hart) ∙ ap (λ n. length (written_out old.schedule) + n) (length-replicate once.ran hart) in
        record {
          none = used_none old.memory new.memory once.slice.kept.pages;
          own = own_run (replicate once.ran hart) (shown_process held old) (shown_process held new) once.slice.ran_is;
          all = same_sum (room old.schedule hart) (length (written_out old.schedule)) (room new.schedule hart) (length (written_out new.schedule)) once.ran left more;
        }

    ran_stays : (process : ℕ) (old new : CoreValue S) (reply : Reply) → StepsHart held honest process hart old new reply → FirstStays old.processes new.processes
    ran_stays process old new reply steps = first_changed process old.processes new.processes (λ p p' how. step_stays steps.why p p' how) steps.one

    collect_stays : (old new : CoreValue S) (reply : Reply) (key : Key) → CollectsOnce held honest key old new reply → FirstStays old.processes new.processes
    collect_stays old new reply key once =
        first_one key.process old.processes new.processes once.process once.process' once.found once.processes (looked_stays key.vpn old new once.process once.process' reply once.comes_to)

    module _ (failures : S → ℕ) where
      saving_stays : (saved : SavedValue S) (pager pager' : PagerSideValue) (process process' : SpaceValue S) (answer : Reply) → EndsSaving saved pager pager' process process' answer → Stays process process'
      saving_stays saved pager pager' process process' answer ends =
          elim ends [
            | inl passed ↦ beside process process' (saved_none saved passed.0.frame process.memory process'.memory passed.0.settles.moves) passed.0.settles.stays
            | inr back ↦
                stays_then process back.0.between process'
                (beside process back.0.between (again_none _ saved process.memory back.0.between.memory back.0.settles.moves) back.0.settles.stays)
                (beside back.0.between process' (mapped_none saved.vpn back.0.between.memory process'.memory back.0.returns.mapped.moves) back.0.returns.mapped.stays)
          ]

      saved_stays : (old new : CoreValue S) (reply : Reply) (key : Key) → SavesOnce held honest failures key old new reply → FirstStays old.processes new.processes
      saved_stays old new reply key once =
          first_one key.process old.processes new.processes once.process once.process' once.found once.processes (saving_stays once.saved old.pager new.pager once.process once.process' reply once.ends)

      paged_in_stays : (old new : CoreValue S) (reply : Reply) (key : Key) → PagesInOnce held honest failures key old new reply → FirstStays old.processes new.processes
      paged_in_stays old new reply key once =
          first_one key.process old.processes new.processes once.process once.process' once.found once.processes
          (elim once.how [
            | inl comes ↦ beside once.process once.process' (comes_none held honest comes.admission.frame comes.admission.key.vpn once.process.memory once.process'.memory comes.loads.moves) comes.loads.stays
            | inr other ↦ elim other [
              | inl back ↦
                  beside once.process once.process' (refuses_none held honest failures back.admission.frame key.vpn back.back back.fault once.process.memory once.process'.memory back.why) back.rest.stays
              | inr unlisted ↦ stays_same once.process once.process' unlisted.process_is
            ]
          ])

      -- an event that serves a hart
      own_hart : (process p h : ℕ) → ServesHart process hart (Step p h) → h ≡ hart
      own_hart process p h serves = elim serves [ inl e ↦ cc | inr e ↦ cc ]

      serving_stays : (process : ℕ) (event : Event) (old new : CoreValue S) (reply : Reply) → ServesHart process hart event → ServesEvent held honest failures event old new reply → FirstStays old.processes new.processes
      serving_stays process (Step p h) old new reply serves did =
          elim did [
            | inl refuses ↦ refused_stays _ old new reply refuses
            | inr steps ↦ ran_stays p old new reply (subst (λ n. StepsHart held honest p n old new reply) (own_hart process p h serves) steps)
          ]
      serving_stays process (Notice p h) old new reply serves did =
          elim did [
            | inl refuses ↦ refused_stays _ old new reply refuses
            | inr notices ↦ first_changed p old.processes new.processes (λ q q' how. noticed_stays h q q' how) notices.one
          ]
      serving_stays process Sweep old new reply serves did = elim did [ inl refuses ↦ refused_stays _ old new reply refuses | inr once ↦ sweep_stays old new reply once ]
      serving_stays process (Collect key) old new reply serves did = elim did [ inl refuses ↦ refused_stays _ old new reply refuses | inr once ↦ collect_stays old new reply key once ]
      serving_stays process (Saved key) old new reply serves did = elim did [ inl refuses ↦ refused_stays _ old new reply refuses | inr once ↦ saved_stays old new reply key once ]
      serving_stays process (PageIn key) old new reply serves did = elim did [ inl refuses ↦ refused_stays _ old new reply refuses | inr once ↦ paged_in_stays old new reply key once ]
      serving_stays process (Kill p cause) old new reply serves did = elim serves [ inl e ↦ cc | inr e ↦ cc ]
      serving_stays process (Purge p) old new reply serves did = elim serves [ inl e ↦ cc | inr e ↦ cc ]
      serving_stays process (Clean key) old new reply serves did = elim serves [ inl e ↦ cc | inr e ↦ cc ]
      serving_stays process (Copy key) old new reply serves did = elim serves [ inl e ↦ cc | inr e ↦ cc ]
      serving_stays process (Cleaned key) old new reply serves did = elim serves [ inl e ↦ cc | inr e ↦ cc ]

      -- ---- events one after another

      runs_stay : (process : ℕ) (events : List Event) (replies : List Reply) (old new : CoreValue S) → All (ServesHart process hart) events → Runs held honest failures events replies old new → FirstStays old.processes new.processes
      unfolding Runs
      runs_stay process [] [] old new serve runs = first_same old.processes new.processes (ap (λ (c : CoreValue S). c.processes) runs)
      runs_stay process [] (reply ∷ replies) old new serve runs = absurd runs
      runs_stay process (event ∷ events) [] old new serve runs = absurd runs
      runs_stay process (event ∷ events) (reply ∷ replies) old new serve runs =
          first_then old.processes runs.0.processes new.processes
          (serving_stays process event old runs.0 reply (All-head (ServesHart process hart) event events serve) runs.1.0.served)
          (runs_stay process events replies runs.0 new (All-tail (ServesHart process hart) event events serve) runs.1.1)

      last_stays : (what : ServedStep) (old new : CoreValue S) (serves : Serves held honest failures 0 hart what old new) → FirstStays serves.between.processes new.processes
      last_stays served.Ran old new serves = serving_stays 0 (Step 0 hart) serves.between new serves.ends.0 (inl refl) serves.ends.1.1.applies.served
      last_stays served.Absent old new serves = first_same serves.between.processes new.processes (ap (λ (c : CoreValue S). c.processes) serves.ends)
      last_stays served.Full old new serves = serving_stays 0 (Step 0 hart) serves.between new _ (inl refl) serves.ends.applies.served
      last_stays served.NoMemory old new serves =
          serving_stays 0 serves.ends.event serves.between new serves.ends.reply serves.ends.serves serves.ends.happens.applies.served

      brought_stays : (old new : CoreValue S) → BringsIn held honest failures 0 hart old new → FirstStays old.processes new.processes
      brought_stays old new brings = runs_stay 0 brings.events brings.replies old new brings.serve brings.runs

      served_stays : (what : ServedStep) (old new : CoreValue S) → Serves held honest failures 0 hart what old new → FirstStays old.processes new.processes
      served_stays what old new serves =
          first_then old.processes serves.between.processes new.processes (brought_stays old serves.between serves.brings) (last_stays what old new serves)

      -- ---- what a schedule takes

      full_is : (why : SliceStop) → ScheduleFull ≡ step_reply why → why ≡ stop.ScheduleFull
      full_is stop.ScheduleFull told = refl
      full_is stop.Budget told = cc
      full_is (stop.Absent page) told = cc
      full_is stop.Yield told = cc
      full_is stop.HartDone told = cc
      full_is stop.Ended told = cc
      full_is stop.NoHart told = cc
      full_is stop.NoMemory told = cc

      none_left : (p : SpaceValue S) (p' : SpaceValue S) (why : SliceStop) → why ≡ stop.ScheduleFull → StepsOnce held honest hart why p p' → room p.schedule hart ≡ 0
      none_left p p' why full once =
          let stops = subst (λ w. StopsRecorded (LacksIn p.memory) hart 1 (room p.schedule hart) (shown_process held p) w once.ran (shown_process held p')) full once.slice.stops in
          no_room (room p.schedule hart) once.ran stops.0 stops.1.fewer

      unroomy_at : (old new : CoreValue S) → ServesEvent held honest failures (Step 0 hart) old new ScheduleFull → (side : SpaceValue S) → slice_get old.processes 0 ≡ Some side → room side.schedule hart ≡ 0
      unroomy_at old new did side at =
          elim did [
            | inl refuses ↦ absurd (never refuses.refusal refuses.reply_is)
            | inr steps ↦
                let same = some_is steps.one.process side (sym steps.one.found ∙ at) in
                ap (λ (p : SpaceValue S). room p.schedule hart) (sym same) ∙ none_left steps.one.process steps.one.process' steps.why (full_is steps.why steps.reply_is) steps.one.how
          ]
        where
          never : (why : EventRefusal) → ScheduleFull ≡ Refused why → ⊥
          never why e = cc

      full_room : (old new : CoreValue S) → Serves held honest failures 0 hart served.Full old new → (side : SpaceValue S) → slice_get old.processes 0 ≡ Some side → room side.schedule hart ≡ 0
      full_room old new serves side at =
          let stays = brought_stays old serves.between serves.brings side at in
          let remains = serves.brings.remains 0 side at in
          let same = some_is remains.process stays.side' (sym remains.found ∙ stays.found) in
          let recorded = ap (λ (p : SpaceValue S). written_out p.schedule) (sym same) ∙ remains.goes_on.recorded ∙ append-nil (written_out side.schedule) in
          none_before (room side.schedule hart) (length (written_out side.schedule)) (room stays.side'.schedule hart) (length (written_out stays.side'.schedule)) stays.stays.all (ap length recorded)
          (unroomy_at serves.between new serves.ends.applies.served stays.side' stays.found)

  -- ---- the machine's one process

  there_is : (core : CoreValue S) → IsSome (slice_get core.processes 0) → (side : SpaceValue S) × (slice_get core.processes 0 ≡ Some side)
  there_is core there = by (slice_get core.processes 0) refl there
    where
      by : (o : Option (SpaceValue S)) → slice_get core.processes 0 ≡ o → IsSome o → (side : SpaceValue S) × (slice_get core.processes 0 ≡ Some side)
      by None e there = cc
      by (Some side) e there = (side, e)

  intact_by : (old new : CoreValue S) → FirstStays old.processes new.processes → IsSome (slice_get old.processes 0) → IsIntact old → IsIntact new
  intact_by old new first there intact number given =
      let at = there_is old there in
      let stays = first at.0 at.1 in
      intact number (ap (option_and_then (stage_of number)) at.1 ∙ stays.stays.none number (sym (ap (option_and_then (stage_of number)) stays.found) ∙ given))

  unkilled_by : (old new : CoreValue S) → FirstStays old.processes new.processes → IsSome (slice_get old.processes 0) → IsUnkilled old → IsUnkilled new
  unkilled_by old new first there unkilled =
      let at = there_is old there in
      let stays = first at.0 at.1 in
      subst IsUnkilledIn (sym stays.found) (stays.stays.own (subst IsUnkilledIn at.1 unkilled))

  module _ (held : S → List ℕ) (honest : Type 0) (failures : S → ℕ) where
    pub serves_intact : (what : ServedStep) (old new : CoreValue S) → Serves held honest failures 0 hart what old new → IsSome (slice_get old.processes 0) → IsIntact old → IsIntact new
    serves_intact what old new serves there intact = intact_by old new (served_stays held honest failures what old new serves) there intact

    pub serves_unkilled : (what : ServedStep) (old new : CoreValue S) → Serves held honest failures 0 hart what old new → IsSome (slice_get old.processes 0) → IsUnkilled old → IsUnkilled new
    serves_unkilled what old new serves there unkilled = unkilled_by old new (served_stays held honest failures what old new serves) there unkilled

    -- where the schedule takes no further instruction, it took none before pages were brought in
    pub serves_full : (what : ServedStep) (old new : CoreValue S) → Serves held honest failures 0 hart what old new → IsSome (slice_get old.processes 0) → what ≡ served.Full → room_left hart old ≡ 0
    serves_full what old new serves there full =
        let at = there_is old there in
        ap (room_in hart) at.1 ∙ full_room held honest failures old new (subst (λ w. Serves held honest failures 0 hart w old new) full serves) at.0 at.1

own_none : (ending : Option End) → ending ≡ None → own_ending ending ≡ ending
own_none ending none = ap own_ending none ∙ sym none

opens_unended : (image : ImageContent) (input : List ℕ) → (opening image input).ending ≡ None
unfolding opening
opens_unended image input = refl

module _ {S : Type 0} where
  -- ---- an ending by the machine

  killed_pages : (ending : Option End) (memory : PagedValue S) (number : ℕ) → stage_in (if_killed ending memory) number ≡ Some Purged → stage_in memory number ≡ Some Purged
  killed_pages None memory number given = emptied_none memory number given
  killed_pages (Some ending) memory number given = given

  pub kill_intact : (held : S → List ℕ) (honest : Type 0) (failures : S → ℕ) (cause : KillCause) (old new : CoreValue S) (reply : Reply) → Applies held honest failures (Kill 0 cause) old new reply → IsIntact old → IsIntact new
  kill_intact held honest failures cause old new reply applies intact =
      elim applies.served [
        | inl refuses ↦ λ number given. intact number (ap (λ (c : CoreValue S). stage_shown c number) (sym refuses.stays) ∙ given)
        | inr kills ↦ λ number given.
            let one = kills.one in
            let after = ap (λ l. slice_get l 0) one.is ∙ get_set_same old.processes 0 one.process one.process' one.found in
            let there = sym (ap (option_and_then (stage_of number)) after) ∙ given in
            intact number
            (ap (option_and_then (stage_of number)) one.found
            ∙ killed_pages one.process.running.ending one.process.memory number (subst (λ (p : SpaceValue S). stage_in p.memory number ≡ Some Purged) one.how there))
      ]

  -- ---- a machine that begins

  pub begins_intact : (image : ImageContent) (input : List ℕ) (starts : List Start) (core : CoreValue S) → starts ≡ start_of image input ∷ [] → AllBegin starts core.processes → IsIntact core
  begins_intact image input starts core alone all number given =
      let first = (subst (λ l. AllBegin l core.processes) alone all).each 0 (omega arith) in
      fresh_none (opening_pages first.start.image.pages) first.process.memory number first.begins.pages (sym (ap (option_and_then (stage_of number)) first.found) ∙ given)

  pub begins_unkilled : (image : ImageContent) (input : List ℕ) (starts : List Start) (core : CoreValue S) → starts ≡ start_of image input ∷ [] → AllBegin starts core.processes → IsUnkilled core
  begins_unkilled image input starts core alone all =
      let first = (subst (λ l. AllBegin l core.processes) alone all).each 0 (omega arith) in
      subst IsUnkilledIn (sym first.found)
      (own_none first.process.running.ending (ap (λ (r : RunningValue). r.ending) first.begins.running ∙ opens_unended first.start.image first.start.input))
