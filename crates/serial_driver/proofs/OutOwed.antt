-- A save is out exactly while it is owed.
use Rattle.std.proofs.Common.{◌≡◌, ℕ, ◌+◌, ◌<◌, ◌^◌, Bool, true, false, nat_le, List, [], ◌∷◌, ◌++◌, length, Option, Some, None, All, IsPermutation, inl, inr, refl, sym, ap, ◌∙◌, arith, subst}
use Rattle.std.specs.Prelude.{if◌then◌else◌}
use Rattle.std.proofs.lemmas.List.Elements.{All-head}
use Rattle.std.proofs.lemmas.List.Sorted.{length_permutation}
use Rattle.clock_policy.specs.declared.key.Key.{Key}
use Rattle.flat_machine.specs.declared.end.KillCause.{KillCause}
use Rattle.flat_machine.specs.declared.end.KillCause.TheVariants as cause
use Rattle.page_store.specs.JobValue.{JobValue}
use Rattle.paged_memory.proofs.access_laws.AmongLaws.{some_saving}
use Rattle.space_core.specs.StandsFor.{SpaceValue}
use Rattle.paged_memory.specs.moves.Stages.{is_saving_stage}
use Rattle.paged_memory.specs.Whole.{stage_in}
use Rattle.machine_sides.specs.SavingBack.{is_saving_at}
use Rattle.machine_sides.proofs.StageLaws.{stage_below}
use Rattle.machine_sides.specs.Together.{key_of, savings_in}
use Rattle.machine_core.specs.declared.error.EventRefusal.{EventRefusal}
use Rattle.machine_core.specs.declared.error.EventRefusal.TheVariants as refusal
use Rattle.machine_core.specs.declared.event.Event.{Event}
use Rattle.machine_core.specs.declared.event.Event.TheVariants.{Step, Notice, Sweep, Collect, Saved, PageIn, Kill, Purge}
use Rattle.machine_core.specs.declared.event.Reply.{Reply}
use Rattle.machine_core.specs.Applying.{Applies}
use Rattle.machine_core.specs.CollectEvent.{CollectsTo, not_yet, freed, dirty, no_slot}
use Rattle.machine_core.specs.Faithful.{IsFaithful}
use Rattle.machine_core.specs.Machine.{CoreValue, IsMachine, IsSaveOut, jobs_where, total}
use Rattle.machine_core.specs.MachineRun.{of_process}
use Rattle.machine_core.specs.SavingOut.{saved_refusal, saving_reason}
use Rattle.machine_core.proofs.TotalLaws.{total_at}
use Rattle.serial_driver.specs.Limit.{ComeInTurn, DoesSave, PlaysUpTo, SavesNone}
use Rattle.serial_driver.specs.Owing.{Duty, Pays, ArePaid, collect_owes, duty_after, duty_with, is_damaged, is_device, is_dirty, is_full, is_going_on, is_out_of_memory, load_owes, most_load_faults, next_owed, no_duty, owed_save, save_owes, step_owes, stop_owes}
use Rattle.serial_driver.specs.Turning.{EndsProcess, IsInTurn}

-- ---- what is owed but a save

one_kill : (b : Bool) (process : ℕ) (why : KillCause) → owed_save (if b then Some (Kill process why) else None) ≡ None
one_kill true process why = refl
one_kill false process why = refl

no_save_stopped : (process : ℕ) (answer : Reply) → owed_save (stop_owes process answer) ≡ None
no_save_stopped process answer = by_tests (is_full answer) (is_out_of_memory answer)
  where
    by_tests : (a b : Bool) → owed_save (if a then Some (Kill process cause.ScheduleFull) else (if b then Some (Kill process cause.NoMemory) else Some (Purge process))) ≡ None
    by_tests true b = refl
    by_tests false true = refl
    by_tests false false = refl

no_save_stepped : (process : ℕ) (answer : Reply) → owed_save (step_owes process answer) ≡ None
no_save_stepped process answer = by_test (is_going_on answer)
  where
    by_test : (b : Bool) → owed_save (if b then None else stop_owes process answer) ≡ None
    by_test true = refl
    by_test false = no_save_stopped process answer

no_save_saved : (process : ℕ) (answer : Reply) → owed_save (save_owes process answer) ≡ None
no_save_saved process answer = one_kill (is_out_of_memory answer) process cause.NoMemory

no_save_loaded : (faults process : ℕ) (answer : Reply) → owed_save (load_owes faults process answer) ≡ None
no_save_loaded faults process answer = by_tests (is_device answer) (nat_le most_load_faults (faults + 1)) (is_damaged answer)
  where
    by_tests : (a b c : Bool) → owed_save (if a then (if b then Some (Kill process cause.LoadFailed) else None) else (if c then Some (Kill process cause.Damaged) else save_owes process answer)) ≡ None
    by_tests true true c = refl
    by_tests true false c = refl
    by_tests false b true = refl
    by_tests false b false = no_save_saved process answer

no_save_collected : (key : Key) (answer : Reply) → is_dirty answer ≡ false → owed_save (collect_owes key answer) ≡ None
no_save_collected key answer clean = by_test (is_dirty answer) clean
  where
    by_test : (b : Bool) → b ≡ false → owed_save (if b then Some (Saved key) else save_owes key.process answer) ≡ None
    by_test true h = cc
    by_test false h = no_save_saved key.process answer

module _ {S : Type 0} where
  -- the saves that are out: of this page alone, or none
  abbrev AreOut : Option Key → List (JobValue S) → Type 0
  AreOut None jobs = jobs ≡ []
  AreOut (Some key) jobs = (job : JobValue S) × ((jobs ≡ job ∷ []) × (key_of job.process job.vpn ≡ key))

  out_none : (owed : Option Key) (jobs jobs' : List (JobValue S)) → owed ≡ None → jobs ≡ [] → jobs' ≡ jobs → AreOut owed jobs'
  out_none owed jobs jobs' nothing none same = subst (λ o. AreOut o jobs') (sym nothing) (same ∙ none)

  -- ---- pages that are being saved, and the saves that are out

  empty : (l : List (JobValue S)) → length l ≡ 0 → l ≡ []
  empty [] h = refl
  empty (x ∷ l) h = absurd (omega (arith, h))

  -- where none is out, none comes back
  none_taken : (job : JobValue S) (jobs jobs' : List (JobValue S)) → IsPermutation jobs (job ∷ jobs') → jobs ≡ [] → ⊥
  none_taken job jobs jobs' moved none =
      let count = length_permutation jobs (job ∷ jobs') moved in
      let nothing : length jobs ≡ 0 = ap (λ (l : List (JobValue S)). length l) none in
      omega (arith, count, nothing)

  -- where one is out, none is once it comes back
  last_taken : (job one : JobValue S) (jobs jobs' : List (JobValue S)) → IsPermutation jobs (job ∷ jobs') → jobs ≡ one ∷ [] → jobs' ≡ []
  last_taken job one jobs jobs' moved same =
      let count = length_permutation jobs (job ∷ jobs') moved in
      let single : length jobs ≡ 1 = ap (λ (l : List (JobValue S)). length l) same in
      empty jobs' (omega (arith, count, single))

  stage_saving : (processes : List (SpaceValue S)) (job : JobValue S) (out : IsSaveOut processes job) → is_saving_at out.process job.vpn ≡ true
  stage_saving processes job out = ap is_saving_stage (stage_below out.process job.vpn out.small) ∙ out.saving

  reason_none : (vpn : ℕ) (process : SpaceValue S) → is_saving_at process vpn ≡ true → saving_reason vpn process ≡ None
  reason_none vpn process saving = ap (λ (b : Bool). if b then None else Some refusal.NotSaving) saving

  -- the save that is out can come back
  not_refused : (processes : List (SpaceValue S)) (job : JobValue S) → IsSaveOut processes job → saved_refusal (key_of job.process job.vpn) processes ≡ None
  not_refused processes job out =
      ap (of_process (saving_reason job.vpn)) out.found ∙ reason_none job.vpn out.process (stage_saving processes job out)

  first_out : (processes : List (SpaceValue S)) (jobs : List (JobValue S)) (job : JobValue S) → All (IsSaveOut processes) jobs → jobs ≡ job ∷ [] → IsSaveOut processes job
  first_out processes jobs job all same = All-head (IsSaveOut processes) job [] (subst (λ l. All (IsSaveOut processes) l) same all)

  -- where no page is being saved, no save is out
  pub none_out : (core : CoreValue S) → IsMachine core → SavesNone core → core.jobs ≡ []
  none_out core machine none = by_jobs core.jobs machine.out
    where
      by_jobs : (jobs : List (JobValue S)) → All (IsSaveOut core.processes) jobs → jobs ≡ []
      by_jobs [] all = refl
      by_jobs (job ∷ jobs) all =
          let out = All-head (IsSaveOut core.processes) job jobs all in
          let saving = out.saving in
          let not = none job.process out.process out.found job.vpn out.small in
          absurd (cc)

  nothing_saved : (space : SpaceValue S) → savings_in space (λ _. true) ≡ 0 → (q : ℕ) → q < 2 ^ 20 → is_saving_stage (stage_in space.memory q) ≡ false
  unfolding savings_in
  nothing_saved space none q small = by_test (is_saving_stage (stage_in space.memory q)) refl
    where
      by_test : (b : Bool) → is_saving_stage (stage_in space.memory q) ≡ b → is_saving_stage (stage_in space.memory q) ≡ false
      by_test true is = let one = some_saving space.memory (λ _. true) q small is refl in absurd (omega (arith, one, none))
      by_test false is = is

  no_jobs : (jobs : List (JobValue S)) → jobs ≡ [] → jobs_where (λ _. true) jobs ≡ 0
  unfolding jobs_where total
  no_jobs [] e = refl
  no_jobs (job ∷ jobs) e = cc

  -- where no save is out, no page is being saved
  pub none_saving : (core : CoreValue S) → IsMachine core → core.jobs ≡ [] → SavesNone core
  none_saving core machine none = λ number process found q small.
      let most = total_at (λ (p : SpaceValue S). savings_in p (λ _. true)) core.processes number process found in
      let same = machine.saved (λ _. true) in
      let zero = no_jobs core.jobs none in
      nothing_saved process (omega (arith, most, same, zero)) q small

module _ {S : Type 0} (held : S → List ℕ) (honest : Type 0) (failures : S → ℕ) where
  -- ---- one event

  collected_out : (key : Key) (old new : CoreValue S) (process process' : SpaceValue S) (answer : Reply) → process.memory.process ≡ key.process → old.jobs ≡ [] → CollectsTo key.vpn old new process process' answer
      → AreOut (owed_save (collect_owes key answer)) new.jobs
  collected_out key old new process process' answer number none (not_yet how jobs told) =
      out_none _ old.jobs new.jobs (no_save_collected key answer (ap is_dirty told)) none jobs
  collected_out key old new process process' answer number none (freed how jobs told) =
      out_none _ old.jobs new.jobs (no_save_collected key answer (ap is_dirty told)) none jobs
  collected_out key old new process process' answer number none (dirty job how jobs told) =
      let page : key_of job.process job.vpn ≡ key = ap (λ p. key_of p job.vpn) (how.saving.moves.process ∙ number) ∙ ap (λ v. key_of key.process v) how.saving.moves.vpn_is in
      subst (λ a. AreOut (owed_save (collect_owes key a)) new.jobs) (sym told) (job, (jobs ∙ ap (λ l. l ++ job ∷ []) none, page))
  collected_out key old new process process' answer number none (no_slot how jobs told) =
      out_none _ old.jobs new.jobs (no_save_collected key answer (ap is_dirty told)) none jobs

  -- where a process is ended or gives back what it has, none is out still
  quiet_end : (event : Event) (answer : Reply) (old new : CoreValue S) (duty : Duty) → EndsProcess event → Applies held honest failures event old new answer → old.jobs ≡ []
      → AreOut (owed_save (duty_with event answer duty).owed) new.jobs
  quiet_end (Kill process why) answer old new duty ends applies none =
      elim applies.served [
        | inl refuses ↦ out_none _ old.jobs new.jobs refl none (ap (λ (c : CoreValue S). c.jobs) refuses.stays)
        | inr kills ↦ out_none _ old.jobs new.jobs refl none (ap (λ (c : CoreValue S). c.jobs) kills.stays)
      ]
  quiet_end (Purge process) answer old new duty ends applies none =
      elim applies.served [
        | inl refuses ↦ out_none _ old.jobs new.jobs refl none (ap (λ (c : CoreValue S). c.jobs) refuses.stays)
        | inr purges ↦ out_none _ old.jobs new.jobs refl none (ap (λ (c : CoreValue S). c.jobs) purges.stays)
      ]
  quiet_end _ answer old new duty ends applies none = absurd ends

  -- where none is out, one is after a look at a changed page alone
  quiet : (event : Event) (answer : Reply) (old new : CoreValue S) (duty : Duty) → Applies held honest failures event old new answer → IsFaithful held honest old → IsInTurn honest old duty.turn event → old.jobs ≡ []
      → AreOut (owed_save (duty_with event answer duty).owed) new.jobs
  quiet (Step process hart) answer old new duty applies faithful in_turn none =
      elim applies.served [
        | inl refuses ↦ out_none _ old.jobs new.jobs (no_save_stepped process answer) none (ap (λ (c : CoreValue S). c.jobs) refuses.stays)
        | inr steps ↦ out_none _ old.jobs new.jobs (no_save_stepped process answer) none (ap (λ (c : CoreValue S). c.jobs) steps.stays)
      ]
  quiet (Notice process hart) answer old new duty applies faithful in_turn none =
      elim applies.served [
        | inl refuses ↦ out_none _ old.jobs new.jobs refl none (ap (λ (c : CoreValue S). c.jobs) refuses.stays)
        | inr notices ↦ out_none _ old.jobs new.jobs refl none (ap (λ (c : CoreValue S). c.jobs) notices.stays)
      ]
  quiet Sweep answer old new duty applies faithful in_turn none =
      elim applies.served [
        | inl refuses ↦ out_none _ old.jobs new.jobs refl none (ap (λ (c : CoreValue S). c.jobs) refuses.stays)
        | inr sweeps ↦ out_none _ old.jobs new.jobs refl none (ap (λ (c : CoreValue S). c.jobs) sweeps.stays)
      ]
  quiet (Collect key) answer old new duty applies faithful in_turn none =
      elim applies.served [
        | inl refuses ↦ out_none _ old.jobs new.jobs (no_save_collected key answer (ap is_dirty refuses.reply_is)) none (ap (λ (c : CoreValue S). c.jobs) refuses.stays)
        | inr collects ↦ collected_out key old new collects.process collects.process' answer (faithful.machine.numbered key.process collects.process collects.found) none collects.comes_to
      ]
  quiet (Saved key) answer old new duty applies faithful in_turn none =
      elim applies.served [
        | inl refuses ↦ out_none _ old.jobs new.jobs (no_save_saved key.process answer) none (ap (λ (c : CoreValue S). c.jobs) refuses.stays)
        | inr saves ↦ absurd (none_taken saves.makes.job old.jobs new.jobs saves.makes.taken none)
      ]
  quiet (PageIn key) answer old new duty applies faithful in_turn none =
      elim applies.served [
        | inl refuses ↦ out_none _ old.jobs new.jobs (no_save_loaded duty.faults key.process answer) none (ap (λ (c : CoreValue S). c.jobs) refuses.stays)
        | inr pages ↦ out_none _ old.jobs new.jobs (no_save_loaded duty.faults key.process answer) none (ap (λ (c : CoreValue S). c.jobs) pages.stays)
      ]
  quiet event answer old new duty applies faithful in_turn none = quiet_end event answer old new duty in_turn applies none

  -- the save that is out is done by its event
  done : (key : Key) (answer : Reply) (old new : CoreValue S) → Applies held honest failures (Saved key) old new answer → IsFaithful held honest old → AreOut (Some key) old.jobs → new.jobs ≡ []
  done key answer old new applies faithful out =
      elim applies.served [
        | inl refuses ↦
            let may : saved_refusal key old.processes ≡ None =
            subst (λ k. saved_refusal k old.processes ≡ None) out.1.1 (not_refused old.processes out.0 (first_out old.processes old.jobs out.0 faithful.machine.out out.1.0)) in
            let why = refuses.reason_is in
            absurd (some_none (saved_refusal key old.processes) refuses.refusal why may)
        | inr saves ↦ last_taken saves.makes.job out.0 old.jobs new.jobs saves.makes.taken out.1.0
      ]
    where
      some_none : (o : Option EventRefusal) (why : EventRefusal) → o ≡ Some why → o ≡ None → ⊥
      some_none None why a b = cc
      some_none (Some x) why a b = cc

  out_after : (event : Event) (answer : Reply) (old new : CoreValue S) (duty : Duty) (spent : Option ℕ) → Applies held honest failures event old new answer → IsFaithful held honest old
      → AreOut (owed_save duty.owed) old.jobs → Pays (next_owed duty.owed spent) event → IsInTurn honest old duty.turn event → AreOut (owed_save (duty_with event answer duty).owed) new.jobs
  out_after event answer old new duty spent applies faithful out pays in_turn = by_owed duty.owed out pays
    where
      by_owed : (owed : Option Event) → AreOut (owed_save owed) old.jobs → Pays (next_owed owed spent) event → AreOut (owed_save (duty_with event answer duty).owed) new.jobs
      by_owed None out pays = quiet event answer old new duty applies faithful in_turn out
      by_owed (Some (Saved key)) out pays =
          let saves = subst (λ e. Applies held honest failures e old new answer) pays applies in
          subst (λ e. AreOut (owed_save (duty_with e answer duty).owed) new.jobs) (sym pays)
          (out_none _ [] new.jobs (no_save_saved key.process answer) refl (done key answer old new saves faithful out))
      by_owed (Some _) out pays = quiet event answer old new duty applies faithful in_turn out

  -- ---- a run of events

  played_out : (events : List Event) (replies : List Reply) (old new : CoreValue S) (most : ℕ) (tried : ℕ → ℕ) (duty : Duty) (spent : Option ℕ) → ComeInTurn held honest failures duty events replies old new
      → ArePaid most tried duty spent events replies → IsFaithful held honest old → AreOut (owed_save duty.owed) old.jobs
      → AreOut (owed_save (duty_after events replies duty).owed) new.jobs × IsFaithful held honest new
  unfolding ComeInTurn ArePaid duty_after
  played_out [] [] old new most tried duty spent run paid faithful out =
      (subst (λ (c : CoreValue S). AreOut (owed_save duty.owed) c.jobs) (sym run) out, subst (λ c. IsFaithful held honest c) (sym run) faithful)
  played_out [] (r ∷ rs) old new most tried duty spent run paid faithful out = absurd run
  played_out (e ∷ es) [] old new most tried duty spent run paid faithful out = absurd run
  played_out (e ∷ es) (r ∷ rs) old new most tried duty spent run paid faithful out =
      played_out es rs run.0 new most _ (duty_with e r duty) _ run.1.1.1 paid.1 run.1.0.faithful (out_after e r old run.0 duty spent run.1.0 faithful out paid.0 run.1.1.0)

  saved_out : (unsaved : Option Key) (old new : CoreValue S) → DoesSave held honest failures unsaved old new → IsFaithful held honest old → AreOut unsaved old.jobs → SavesNone new
  saved_out None old new is faithful out = subst (λ (c : CoreValue S). SavesNone c) (sym is) (none_saving old faithful.machine out)
  saved_out (Some key) old new saves faithful out = none_saving new saves.1.faithful.machine (done key saves.0 old new saves.1 faithful out)

  -- where no page is being saved at first, none is once the save that is out is done
  pub all_saved : (slice limit : ℕ) (unsaved : Option Key) (old played saved : CoreValue S) → PlaysUpTo held honest failures slice limit unsaved old played → DoesSave held honest failures unsaved played saved
      → IsFaithful held honest old → SavesNone old → SavesNone saved
  all_saved slice limit unsaved old played saved plays saves faithful none =
      let after = played_out plays.plays.events plays.plays.replies old played _ _ (no_duty slice) None plays.plays.in_turn plays.plays.paid faithful (none_out old faithful.machine none) in
      saved_out unsaved played saved saves after.1 (subst (λ o. AreOut o played.jobs) (sym plays.unsaved_is) after.0)
