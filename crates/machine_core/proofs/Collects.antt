-- The machine stays one by a look at a page, and what that comes to.
use Rattle.std.proofs.Common.{◌≡◌, ℕ, ◌+◌, ◌<◌, ◌^◌, Bool, true, false, cond, take, drop, List, [], ◌∷◌, ◌++◌, length, length-append, Option, Some, None, slice_get, refl, sym, ap, ◌∙◌, arith, subst}
use Rattle.std.specs.Prelude.{slice_set, All, IfSome, if◌then◌else◌}
use Rattle.std.proofs.lemmas.List.{length-set}
use Rattle.std.proofs.lemmas.List.Elements.{All-nil, All-cons, All-append}
use Rattle.clock_policy.specs.declared.key.Key.{Key}
use Rattle.clock_policy.proofs.AdmitLaws.{one_key}
use Rattle.clock_policy.specs.Lawful.{Lawful}
use Rattle.page_store.specs.JobValue.{JobValue}
use Rattle.paged_memory.proofs.cleaning_laws.CopiesToldLaws.{leaves_itself}
use Rattle.paged_memory.specs.moves.Stages.{is_leaving_stage, is_saving_stage}
use Rattle.paged_memory.proofs.move_laws.StagesLaws.{leaving_framed, leaving_not_resident, leaving_not_saving}
use Rattle.paged_memory.specs.Whole.{stage_in, frame_in}
use Rattle.space_core.specs.StandsFor.{SpaceValue}
use Rattle.swap_slots.specs.PoolValue.{PoolValue}
use Rattle.machine_sides.specs.declared.collecting.Looked.{Looked}
use Rattle.machine_sides.specs.declared.collecting.Looked.TheVariants.{NotLeaving, NotYet, Freed, Dirty, NoSlot}
use Rattle.machine_core.specs.declared.error.EventRefusal.TheVariants as refusal
use Rattle.machine_core.specs.declared.event.Reply.{Reply}
use Rattle.machine_sides.specs.Collecting.{is_leaving_at, Looks, IsDropped, IsCopied, LacksAndReturns}
use Rattle.machine_sides.specs.Returning.{CanReturn}
use Rattle.machine_core.specs.CollectEvent.{leaving_reason, collect_refusal, CollectsTo, not_yet, freed, dirty, no_slot, CollectsOnce}
use Rattle.machine_core.specs.CollectSteps.{CanReturnAt, LooksAt, IsOwn, jobs_after, looked_reply}
use Rattle.machine_sides.proofs.CollectLaws.{dropped_together, dropped_rest, copied_together, copied_savings, copied_slots, copied_now}
use Rattle.machine_sides.proofs.LookLaws.{same_sides}
use Rattle.machine_core.specs.Machine.{CoreValue, IsMachine, IsSaveOut, IsCopyOut, jobs_where, total}
use Rattle.machine_core.specs.MachineRun.{of_process}
use Rattle.machine_sides.proofs.ReturnLaws.{returned_rest, listed_frames, back_together}
use Rattle.machine_sides.specs.Sides.{PagerSideValue}
use Rattle.machine_sides.proofs.StageLaws.{stage_passes}
use Rattle.machine_sides.proofs.TogetherLaws.{LeavesRest}
use Rattle.machine_sides.specs.Together.{Together, key_of}
use Rattle.machine_core.proofs.Cores.{lent_back}
use Rattle.machine_core.proofs.Counted.{HoldsFrame, job_fits, can_return}
use Rattle.machine_core.proofs.Kept.{Moves, moved_machine, out_stays, copies_stay, copies_even}
use Rattle.machine_core.proofs.TotalLaws.{get_set_same}

module _ {S : Type 0} where
  -- ---- a page that is leaving holds a frame, and is neither resident nor being saved

  leaving_holds : (space : SpaceValue S) (vpn : ℕ) → is_leaving_at space vpn ≡ true → HoldsFrame space vpn
  leaving_holds space vpn leaving =
      let there = stage_passes space is_leaving_stage vpn refl leaving in
      let page = stage_in space.memory vpn in
      record { small = there.0; framed = leaving_framed page there.1; apart = leaving_not_resident page there.1 }

  -- ---- sums of saves

  pub more_jobs : (test : Key → Bool) (jobs : List (JobValue S)) (job : JobValue S) → jobs_where test (jobs ++ job ∷ []) ≡ jobs_where test jobs + cond (test (key_of job.process job.vpn)) 1 0
  unfolding jobs_where total
  more_jobs test [] job = omega arith
  more_jobs test (other ∷ jobs) job = omega (arith, more_jobs test jobs job)

  -- ---- the moves

  module _ (core core' : CoreValue S) (p : ℕ) (q q' : SpaceValue S) (machine : IsMachine core) (found : slice_get core.processes p ≡ Some q) (processes : core'.processes ≡ slice_set core.processes p q') where
    -- where neither slots nor saves change
    quiet_moves : Together core.pager.pager core'.pager.pager q q' → Lawful core'.pager.pager.list → core'.pager.pager.list.frames ≡ core'.pager.pager.size → LeavesRest q q' → core'.slots ≡ core.slots → core'.jobs ≡ core.jobs → core'.copies ≡ core.copies → Moves core core' p q q'
    quiet_moves together lawful frames rest slots jobs copies = record {
      found = found;
      processes = processes;
      together = together;
      lawful = lawful;
      frames = frames;
      saved = λ test.
          let same : jobs_where test core'.jobs ≡ jobs_where test core.jobs = ap (jobs_where test) jobs in
          let a = rest.savings test in
          omega (arith, same, a);
      slotted =
          let free : length core'.slots.free ≡ length core.slots.free = ap (λ (s : PoolValue S). length s.free) slots in
          let same : length core'.jobs ≡ length core.jobs = ap length jobs in
          let as_many : length core'.copies ≡ length core.copies = ap length copies in
          let a = rest.slots in
          omega (arith, free, same, as_many, a);
      slots = ap (λ (s : PoolValue S). s.size) slots;
      out = subst (λ l. All (IsSaveOut l) core'.jobs) (sym processes) (subst (All (IsSaveOut (slice_set core.processes p q'))) (sym jobs) (out_stays core.processes p q q' core.jobs found rest.stay machine.out));
      copied = λ test.
          let same : jobs_where test core'.copies ≡ jobs_where test core.copies = ap (jobs_where test) copies in
          let a = copies_even q q' core.copies together.process rest.copies test in
          omega (arith, same, a);
      copies_out = subst (λ l. All (IsCopyOut l) core'.copies) (sym processes) (subst (All (IsCopyOut (slice_set core.processes p q'))) (sym copies) (copies_stay core.processes p q q' core.copies found rest.copies.stand machine.copies_out));
    }

    same_rest : q' ≡ q → LeavesRest q q'
    same_rest same = subst (λ (r : SpaceValue S). LeavesRest q r) (sym same) (record { savings = λ test. refl; slots = refl; stay = λ number small is. (refl, refl); copies = leaves_itself q.memory })

    lawful_still : core'.pager ≡ core.pager → Lawful core'.pager.pager.list
    lawful_still pager = subst (λ (s : PagerSideValue). Lawful s.pager.list) (sym pager) machine.lawful

    frames_still : core'.pager ≡ core.pager → core'.pager.pager.list.frames ≡ core'.pager.pager.size
    frames_still pager = subst (λ (s : PagerSideValue). s.pager.list.frames ≡ s.pager.size) (sym pager) machine.frames

    stays_moves : core'.pager ≡ core.pager → q' ≡ q → core'.slots ≡ core.slots → core'.jobs ≡ core.jobs → core'.copies ≡ core.copies → Moves core core' p q q'
    stays_moves pager same slots jobs copies = quiet_moves (same_sides core.pager core'.pager q q' pager same) (lawful_still pager) (frames_still pager) (same_rest same) slots jobs copies

    module _ (vpn : ℕ) where
      dropped_moves : IsDropped vpn core.pager core'.pager q q' core.slots core'.slots → core'.jobs ≡ core.jobs → core'.copies ≡ core.copies → Moves core core' p q q'
      dropped_moves dropped jobs copies =
          let together = dropped_together vpn core.pager core'.pager q q' core.slots core'.slots dropped in
          quiet_moves together
          (subst (λ (s : PagerSideValue). Lawful s.pager.list) (sym dropped.frees) machine.lawful)
          (subst (λ (s : PagerSideValue). s.pager.list.frames ≡ s.pager.size) (sym dropped.frees) machine.frames)
          (dropped_rest vpn dropped.frame q q' dropped.drops) dropped.slots_stay jobs copies

      returned_moves : LacksAndReturns vpn core.pager core'.pager q q' core.slots core'.slots → core'.jobs ≡ core.jobs → core'.copies ≡ core.copies → Moves core core' p q q'
      returned_moves back jobs copies =
          let together = back_together vpn core.pager core'.pager q q' back.returns in
          quiet_moves together back.returns.listed.lawful
          (listed_frames (key_of q.memory.process vpn) core.pager core'.pager back.returns.listed ∙ machine.frames ∙ sym together.size)
          (returned_rest vpn q q' back.returns.mapped) back.slots_stay jobs copies

      copied_moves : (job : JobValue S) → IsCopied vpn core.pager core'.pager q q' core.slots core'.slots job → core'.jobs ≡ core.jobs ++ job ∷ [] → core'.copies ≡ core.copies → Moves core core' p q q'
      copied_moves job copied jobs copies =
          let saving = copied.saving in
          let at = copied_now vpn job q q' core.slots core'.slots saving in
          let number : job.process ≡ p = saving.moves.process ∙ machine.numbered p q found in
          let out : IsSaveOut core'.processes job = record {
            process = q';
            frame = at.frame;
            small = subst (λ n. n < 2 ^ 20) (sym saving.moves.vpn_is) saving.moves.small;
            found = ap (slice_get core'.processes) number ∙ ap (λ l. slice_get l p) processes ∙ get_set_same core.processes p q q' found;
            saving = ap (λ v. is_saving_stage (stage_in q'.memory v)) saving.moves.vpn_is ∙ ap is_saving_stage at.is;
            framed = ap (frame_in q'.memory) saving.moves.vpn_is ∙ at.framed_still;
            same = sym at.copy;
          } in
          let others : All (IsSaveOut core'.processes) core.jobs = subst (λ l. All (IsSaveOut l) core.jobs) (sym processes) (out_stays core.processes p q q' core.jobs found at.stay machine.out) in
          record {
            found = found;
            processes = processes;
            together = copied_together vpn core.pager core'.pager q q' core.slots core'.slots job copied;
            lawful = lawful_still copied.pager_stays;
            frames = frames_still copied.pager_stays;
            saved = λ test.
                let more : jobs_where test core'.jobs ≡ jobs_where test core.jobs + cond (test (key_of job.process job.vpn)) 1 0 = ap (jobs_where test) jobs ∙ more_jobs test core.jobs job in
                let key : cond {A = ℕ} (test (key_of job.process job.vpn)) 1 0 ≡ cond (test (key_of q.memory.process vpn)) 1 0 = ap (λ k. cond {A = ℕ} (test k) 1 0) (one_key (key_of job.process job.vpn) (key_of q.memory.process vpn) saving.moves.process saving.moves.vpn_is) in
                let one = copied_savings vpn job q q' core.slots core'.slots saving test in
                omega (arith, more, key, one);
            slotted =
                let more : length core'.jobs ≡ length core.jobs + 1 = ap length jobs ∙ length-append core.jobs (job ∷ []) in
                let as_many : length core'.copies ≡ length core.copies = ap length copies in
                let one = copied_slots vpn job q q' core.slots core'.slots saving in
                omega (arith, more, as_many, one);
            slots = saving.size;
            out = subst (All (IsSaveOut core'.processes)) (sym jobs) (All-append (IsSaveOut core'.processes) core.jobs (job ∷ []) others (All-cons (IsSaveOut core'.processes) job [] out (All-nil _)));
            copied = λ test.
                let same : jobs_where test core'.copies ≡ jobs_where test core.copies = ap (jobs_where test) copies in
                let a = copies_even q q' core.copies at.keeps.process at.copies test in
                omega (arith, same, a);
            copies_out = subst (λ l. All (IsCopyOut l) core'.copies) (sym processes) (subst (All (IsCopyOut (slice_set core.processes p q'))) (sym copies) (copies_stay core.processes p q q' core.copies found at.copies.stand machine.copies_out));
          }

      -- the machine stays one, whatever its own look comes to
      pub looked_moves : (looked : Looked S) → Looks vpn core.pager core'.pager q q' core.slots core'.slots looked → IsOwn looked → core'.jobs ≡ jobs_after looked core.jobs → core'.copies ≡ core.copies → Moves core core' p q q'
      looked_moves NotLeaving how own jobs copies = absurd own
      looked_moves NotYet how own jobs copies = stays_moves how.stays.pager_stays how.stays.process_stays how.stays.slots_stay jobs copies
      looked_moves Freed how own jobs copies = dropped_moves how jobs copies
      looked_moves (Dirty job) how own jobs copies = copied_moves job how jobs copies
      looked_moves NoSlot how own jobs copies = returned_moves how jobs copies

      -- and what it comes to
      pub looked_to : (looked : Looked S) (answer : Reply) → Looks vpn core.pager core'.pager q q' core.slots core'.slots looked → IsOwn looked → core'.jobs ≡ jobs_after looked core.jobs → answer ≡ looked_reply looked → CollectsTo vpn core core' q q' answer
      looked_to NotLeaving answer how own jobs is = absurd own
      looked_to NotYet answer how own jobs is = not_yet how jobs is
      looked_to Freed answer how own jobs is = freed how jobs is
      looked_to (Dirty job) answer how own jobs is = dirty job how jobs is
      looked_to NoSlot answer how own jobs is = no_slot how jobs is

  -- ---- what a look comes to in the machine

  module _ (core : CoreValue S) (p : ℕ) (q q' : SpaceValue S) (vpn : ℕ) (machine : IsMachine core) (found : slice_get core.processes p ≡ Some q) (leaving : is_leaving_at q vpn ≡ true) where
    holds : HoldsFrame q vpn
    holds = leaving_holds q vpn leaving

    pub looked_own : (pager' : PagerSideValue) (slots' : PoolValue S) (looked : Looked S) → Looks vpn core.pager pager' q q' core.slots slots' looked → IsOwn looked
    looked_own pager' slots' NotLeaving how = let no = how.0 in let yes = leaving in cc
    looked_own pager' slots' NotYet how = tt
    looked_own pager' slots' Freed how = tt
    looked_own pager' slots' (Dirty job) how = tt
    looked_own pager' slots' NoSlot how = tt

    -- a save of the page has room
    pub looked_room : length core.jobs < core.pager.pager.size
    looked_room = job_fits core p q vpn machine found holds (leaving_not_saving (stage_in q.memory vpn) (stage_passes q is_leaving_stage vpn refl leaving).1)

  -- ---- the event

  allowed_leaving : (vpn : ℕ) (q : SpaceValue S) → leaving_reason vpn q ≡ None → is_leaving_at q vpn ≡ true
  allowed_leaving vpn q h = by_answer (is_leaving_at q vpn) h
    where
      by_answer : (b : Bool) → (if b then None else Some refusal.NotLeaving) ≡ None → b ≡ true
      by_answer true h = refl
      by_answer false h = cc

  -- the list takes the page back
  pub can_return_at : (pager : PagerSideValue) (slots : PoolValue S) (jobs copies : List (JobValue S)) (items lent : List (SpaceValue S)) (key : Key)
      → IsMachine (record { pager = pager; slots = slots; processes = items; jobs = jobs; copies = copies }) → collect_refusal key items ≡ None → lent ≡ items → CanReturnAt key.process key.vpn pager lent
  can_return_at pager slots jobs copies items lent key machine allowed same =
      subst (λ l. CanReturnAt key.process key.vpn pager l) (sym same) (by_found (slice_get items key.process) refl)
    where
      by_found : (o : Option (SpaceValue S)) → slice_get items key.process ≡ o → IfSome o (CanReturn key.vpn pager)
      by_found None is = tt
      by_found (Some q) is =
          can_return (record { pager = pager; slots = slots; processes = items; jobs = jobs; copies = copies }) key.process q key.vpn machine is
          (leaving_holds q key.vpn (allowed_leaving key.vpn q (ap (of_process (leaving_reason key.vpn)) (sym is) ∙ allowed)))

  module _ (held : S → List ℕ) (honest : Type 0) (pager pager' : PagerSideValue) (slots slots' : PoolValue S) (jobs copies : List (JobValue S)) (items lent new : List (SpaceValue S)) (n : ℕ) (key : Key) (looked : Looked S)
      (machine : IsMachine (record { pager = pager; slots = slots; processes = items; jobs = jobs; copies = copies })) (allowed : collect_refusal key items ≡ None)
      (long : n ≡ length items) (same : lent ≡ items) (looks : LooksAt held honest key.process key.vpn pager pager' slots slots' lent new looked) where
    abbrev core : CoreValue S
    core = record { pager = pager; slots = slots; processes = items; jobs = jobs; copies = copies }

    found : slice_get items key.process ≡ Some looks.process
    found = ap (λ l. slice_get l key.process) (sym same) ∙ looks.found

    is_set : take n (new ++ drop (length new) items) ≡ slice_set items key.process looks.process'
    is_set =
        let is : new ≡ slice_set items key.process looks.process' = looks.is ∙ ap (λ l. slice_set l key.process looks.process') same in
        lent_back items new n long (ap length is ∙ length-set items key.process looks.process') ∙ is

    leaving : is_leaving_at looks.process key.vpn ≡ true
    leaving = allowed_leaving key.vpn looks.process (ap (of_process (leaving_reason key.vpn)) (sym found) ∙ allowed)

    pub own : IsOwn looked
    own = looked_own core key.process looks.process looks.process' key.vpn machine found leaving pager' slots' looked looks.how

    pub room : length jobs < pager.pager.size
    room = looked_room core key.process looks.process looks.process' key.vpn machine found leaving

    module _ (jobs' : List (JobValue S)) (answer : Reply) (kept : jobs' ≡ jobs_after looked jobs) (is : answer ≡ looked_reply looked) where
      abbrev core' : CoreValue S
      core' = record { pager = pager'; slots = slots'; processes = take n (new ++ drop (length new) items); jobs = jobs'; copies = copies }

      moves : Moves core core' key.process looks.process looks.process'
      moves = looked_moves core core' key.process looks.process looks.process' machine found is_set key.vpn looked looks.how own kept refl

      pub collected_back : IsMachine core'
      collected_back = moved_machine core core' key.process looks.process looks.process' machine moves

      pub collected_size : pager'.pager.size ≡ pager.pager.size
      collected_size = moves.together.size

      collected_once : CollectsOnce held honest key core core' answer
      collected_once = record {
        allowed = allowed;
        process = looks.process;
        process' = looks.process';
        found = found;
        comes_to = looked_to core core' key.process looks.process looks.process' machine found is_set key.vpn looked answer looks.how own kept is;
        memory = looks.memory;
        processes = is_set;
        stays = refl;
      }

      pub collected_told : (old : CoreValue S) → core ≡ old → CollectsOnce held honest key old core' answer
      collected_told old e = subst (λ o. CollectsOnce held honest key o core' answer) e collected_once
