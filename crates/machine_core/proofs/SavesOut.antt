-- A save that was out comes back: its end is one that the machine answers, and the machine stays one.
use Rattle.std.proofs.Common.{◌≡◌, ℕ, zero, suc, ◌+◌, ◌≤◌, ◌<◌, ◌^◌, Bool, true, false, cond, List, [], ◌∷◌, length, Option, Some, None, slice_get, take, drop, ◌++◌, inl, inr, refl, sym, ap, ◌∙◌, arith, subst}
use Rattle.std.specs.Prelude.{slice_set, All, IfSome}
use Rattle.std.proofs.lemmas.Bool.Decides.{eqb_tells}
use Rattle.std.proofs.lemmas.List.{length-set}
use Rattle.std.proofs.lemmas.List.Elements.{All-nil, All-cons, All-head, All-tail}
use Rattle.std.proofs.lemmas.List.Sorted.{All-permutation, length_permutation}
use Rattle.clock_policy.specs.declared.key.Key.{Key}
use Rattle.clock_policy.proofs.AdmitLaws.{one_key}
use Rattle.clock_policy.specs.Residents.{is_key}
use Rattle.frame_pool.specs.FrameValue.{FrameValue}
use Rattle.page_store.specs.JobValue.{JobValue, SavedValue}
use Rattle.paged_memory.proofs.access_laws.AlikeLaws.{same_stage, same_frame}
use Rattle.paged_memory.specs.moves.Moving.{IsOutOf}
use Rattle.paged_memory.proofs.move_laws.SaveLaws.{leaving_again, out_of}
use Rattle.paged_memory.specs.moves.Stages.{is_saving_stage}
use Rattle.paged_memory.proofs.move_laws.StagesLaws.{saving_framed, saving_not_resident}
use Rattle.paged_memory.specs.Whole.{stage_in, frame_in}
use Rattle.machine_core.specs.declared.event.Reply.{Reply}
use Rattle.machine_sides.specs.declared.saving_back.SaveFailure.{SaveFailure}
use Rattle.machine_sides.specs.declared.saving_back.SaveFailure.TheVariants.{Mismatch, Device}
use Rattle.machine_sides.specs.declared.saving_back.SaveOutcome.{SaveOutcome}
use Rattle.machine_sides.specs.declared.saving_back.SaveOutcome.TheVariants.{Freed, WrongPage, ResidentAgain}
use Rattle.machine_core.specs.Machine.{CoreValue, IsMachine, IsSaveOut, total, jobs_where}
use Rattle.machine_sides.specs.Returning.{CanReturn}
use Rattle.machine_sides.specs.SavingBack.{ShowsFailure, EndsSave, LeavesAgain, FailsAndReturns}
use Rattle.machine_sides.proofs.SavingLaws.{SaveEnds, freed_ends, returned_ends}
use Rattle.machine_core.specs.SavingOut.{saved_refusal, is_save_of, MakesSave, EndsSaving, SavesOnce}
use Rattle.machine_core.specs.CollectSteps.{CanReturnAt}
use Rattle.machine_core.specs.SaveSteps.{SavedAt, IsOwn, RepliesTo}
use Rattle.machine_sides.specs.Sides.{PagerSideValue, MovesMemory}
use Rattle.machine_sides.specs.Together.{savings_in, key_of}
use Rattle.swap_slots.specs.PoolValue.{PoolValue}
use Rattle.machine_core.proofs.Cores.{lent_back}
use Rattle.machine_core.proofs.Counted.{HoldsFrame, can_return}
use Rattle.machine_core.proofs.Finding.{total_some}
use Rattle.machine_core.proofs.Kept.{moved_machine, copies_stay, copies_even}
use Rattle.machine_core.proofs.TotalLaws.{total_set, got_set, get_set_same, get_set_other}
use Rattle.machine_core.proofs.JobsOut.{same_key, total_permuted}
use Rattle.machine_core.proofs.SavingPages.{saving_counted}
use Rattle.space_core.specs.StandsFor.{SpaceValue}

module _ {S : Type 0} where
  module _ (held : S → List ℕ) (honest : Type 0) (failures : S → ℕ) (core : CoreValue S) (key : Key) (q : SpaceValue S) (jobs' : List (JobValue S)) (saved : SavedValue S)
      (machine : IsMachine core) (found : slice_get core.processes key.process ≡ Some q) (makes : MakesSave held honest failures key core.jobs jobs' saved) where
    outs : All (IsSaveOut core.processes) (makes.job ∷ jobs')
    outs = All-permutation (IsSaveOut core.processes) core.jobs (makes.job ∷ jobs') makes.taken machine.out

    out : IsSaveOut core.processes makes.job
    out = All-head (IsSaveOut core.processes) makes.job jobs' outs

    here : out.process ≡ q
    here = let a = out.found in let b = found in let c = makes.job_process in cc

    vpn_is : saved.vpn ≡ key.vpn
    vpn_is = makes.page ∙ makes.job_page

    number : q.memory.process ≡ key.process
    number = machine.numbered key.process q found

    small : saved.vpn < 2 ^ 20
    small = let s = out.small in let e = makes.page in omega (arith, s, e)

    saving : is_saving_stage (stage_in q.memory saved.vpn) ≡ true
    saving =
        ap (λ v. is_saving_stage (stage_in q.memory v)) makes.page
        ∙ ap (λ (r : SpaceValue S). is_saving_stage (stage_in r.memory makes.job.vpn)) (sym here)
        ∙ out.saving

    framed : frame_in q.memory saved.vpn ≡ Some out.frame
    framed = ap (frame_in q.memory) makes.page ∙ ap (λ (r : SpaceValue S). frame_in r.memory makes.job.vpn) (sym here) ∙ out.framed

    holds : HoldsFrame q saved.vpn
    holds = record { small = small; framed = saving_framed (stage_in q.memory saved.vpn) saving; apart = saving_not_resident (stage_in q.memory saved.vpn) saving }

    found_out : IsOutOf saved q.memory
    found_out = out_of saved q.memory (makes.process ∙ makes.job_process ∙ sym number) small saving

    -- the frame holds what was copied, so that it is the device that failed
    device_failed : (failure : SaveFailure) (q' : SpaceValue S) → MovesMemory (LeavesAgain failure saved) q q' → failure ≡ Device
    device_failed Device q' settles = refl
    device_failed Mismatch q' settles =
        let again = leaving_again (ShowsFailure Mismatch saved) saved q.memory q'.memory settles.moves in
        let one : Some again.frame ≡ Some out.frame = sym again.framed ∙ framed in
        let frame : again.frame ≡ out.frame = cc in
        absurd (again.failed (ap (λ (f : FrameValue). f.bytes) frame ∙ out.same ∙ sym makes.copy))

    -- the list takes the page back
    pub can_come_back : CanReturn saved.vpn core.pager q
    can_come_back = can_return core key.process q saved.vpn machine found holds

    pub own : (outcome : SaveOutcome S) (pager' : PagerSideValue) (q' : SpaceValue S) → EndsSave saved core.pager pager' q q' outcome → IsOwn outcome
    own Freed pager' q' ends = tt
    own (WrongPage back) pager' q' ends = ends.why found_out
    own (ResidentAgain failure) pager' q' ends = device_failed failure ends.between ends.settles

    pub ends_with : (outcome : SaveOutcome S) (pager' : PagerSideValue) (q' : SpaceValue S) (answer : Reply) → EndsSave saved core.pager pager' q q' outcome → RepliesTo outcome answer → EndsSaving saved core.pager pager' q q' answer
    ends_with Freed pager' q' answer ends told = inl (ends, told)
    ends_with (WrongPage back) pager' q' answer ends told = absurd told
    ends_with (ResidentAgain failure) pager' q' answer ends told = inr (subst (FailsAndReturns saved core.pager pager' q q') (device_failed failure ends.between ends.settles) ends, told)

    ended : (pager' : PagerSideValue) (q' : SpaceValue S) (answer : Reply) → EndsSaving saved core.pager pager' q q' answer → SaveEnds saved.vpn core.pager.pager pager'.pager q q'
    ended pager' q' answer ends =
        elim ends [
          | inl freed ↦ freed_ends saved core.pager pager' q q' freed.0
          | inr back ↦ returned_ends saved core.pager pager' q q' Device back.0
        ]

    -- ---- the machine stays one

    module _ (pager' : PagerSideValue) (q' : SpaceValue S) (ends : SaveEnds saved.vpn core.pager.pager pager'.pager q q') where
      abbrev now : List (SpaceValue S)
      now = slice_set core.processes key.process q'

      this : key_of q.memory.process saved.vpn ≡ key
      this = one_key _ key number vpn_is

      jobs_split : (test : Key → Bool) → jobs_where test core.jobs ≡ cond (test key) 1 0 + jobs_where test jobs'
      unfolding jobs_where total
      jobs_split test =
          let moved : cond (test (key_of makes.job.process makes.job.vpn)) 1 0 + total (λ (job : JobValue S). cond (test (key_of job.process job.vpn)) 1 0) jobs' ≡ total (λ (job : JobValue S). cond (test (key_of job.process job.vpn)) 1 0) core.jobs = total_permuted (λ (job : JobValue S). cond (test (key_of job.process job.vpn)) 1 0) core.jobs (makes.job ∷ jobs') makes.taken in
          let same : cond {A = ℕ} (test (key_of makes.job.process makes.job.vpn)) 1 0 ≡ cond (test key) 1 0 = ap (λ k. cond {A = ℕ} (test k) 1 0) (one_key _ key makes.job_process makes.job_page) in
          omega (arith, moved, same)

      savings_split : (test : Key → Bool) → savings_in q' test + cond (test key) 1 0 ≡ savings_in q test
      savings_split test = ap (λ k. savings_in q' test + cond (test k) 1 0) (sym this) ∙ ends.savings test

      now_saved : (test : Key → Bool) → jobs_where test jobs' ≡ total (λ (r : SpaceValue S). savings_in r test) now
      now_saved test =
          let jobs = jobs_split test in
          let saving = savings_split test in
          let before = machine.saved test in
          let set = total_set (λ (r : SpaceValue S). savings_in r test) core.processes key.process q q' found in
          omega (arith, jobs, saving, before, set)

      -- the page is saved no more
      none_saving : (i : ℕ) (r : SpaceValue S) → slice_get now i ≡ Some r → 1 ≤ savings_in r (is_key key) → ⊥
      none_saving i r at some =
          let there = saving_counted r key some in
          let is : r ≡ q' = elim (got_set core.processes key.process i q' r at) [
            | inl e ↦ e.1
            | inr old ↦
                let i_is : i ≡ key.process = sym (machine.numbered i r old) ∙ there.0 in
                let mine = get_set_same core.processes key.process q q' found in
                let a = at in
                let both : Some r ≡ Some q' = sym at ∙ ap (slice_get now) i_is ∙ mine in
                cc
          ] in
          let yes : is_saving_stage (stage_in q'.memory key.vpn) ≡ true = ap (λ (s : SpaceValue S). is_saving_stage (stage_in s.memory key.vpn)) (sym is) ∙ there.1.saving in
          let no : is_saving_stage (stage_in q'.memory key.vpn) ≡ false = ap (λ v. is_saving_stage (stage_in q'.memory v)) (sym vpn_is) ∙ ends.ended in
          cc

      none_left : jobs_where (is_key key) jobs' ≡ 0
      none_left = by_count (jobs_where (is_key key) jobs') refl
        where
          by_count : (n : ℕ) → jobs_where (is_key key) jobs' ≡ n → jobs_where (is_key key) jobs' ≡ 0
          by_count zero is = is
          by_count (suc n) is =
              let saved_now = now_saved (is_key key) in
              let one = total_some (λ (r : SpaceValue S). savings_in r (is_key key)) now (omega (arith, is, saved_now)) in
              absurd (none_saving one.place one.item one.found one.some)

      out_still : (job : JobValue S) → is_save_of key job ≡ false → IsSaveOut core.processes job → IsSaveOut now job
      out_still job apart_of out_job =
          elim (eqb_tells job.process key.process) [
            | inl same ↦
                let there : out_job.process ≡ q = let a = out_job.found in let b = found in let c = same.1 in cc in
                let apart : job.vpn ≡ saved.vpn → ⊥ = λ e. let yes = same_key key job.process job.vpn same.1 (e ∙ vpn_is) in let no = apart_of in cc in
                let still = ends.stay job.vpn apart in
                record {
                  process = q';
                  frame = out_job.frame;
                  small = out_job.small;
                  found = ap (slice_get now) same.1 ∙ get_set_same core.processes key.process q q' found;
                  saving =
                      ap is_saving_stage (same_stage q.memory q'.memory job.vpn still)
                      ∙ ap (λ (r : SpaceValue S). is_saving_stage (stage_in r.memory job.vpn)) (sym there)
                      ∙ out_job.saving;
                  framed = same_frame q.memory q'.memory job.vpn still ∙ ap (λ (r : SpaceValue S). frame_in r.memory job.vpn) (sym there) ∙ out_job.framed;
                  same = out_job.same;
                }
            | inr other ↦ record {
              process = out_job.process;
              frame = out_job.frame;
              small = out_job.small;
              found = get_set_other core.processes key.process job.process q' other.1 ∙ out_job.found;
              saving = out_job.saving;
              framed = out_job.framed;
              same = out_job.same;
            }
          ]

      outs_still : (jobs : List (JobValue S)) → jobs_where (is_key key) jobs ≡ 0 → All (IsSaveOut core.processes) jobs → All (IsSaveOut now) jobs
      unfolding jobs_where total
      outs_still [] none all = All-nil _
      outs_still (job ∷ jobs) none all =
          All-cons (IsSaveOut now) job jobs
          (out_still job (apart (is_save_of key job) refl) (All-head (IsSaveOut core.processes) job jobs all))
          (outs_still jobs (omega (arith, none)) (All-tail (IsSaveOut core.processes) job jobs all))
        where
          apart : (b : Bool) → is_save_of key job ≡ b → is_save_of key job ≡ false
          apart false is = is
          apart true is = let one : cond {A = ℕ} (is_save_of key job) 1 0 ≡ 1 = ap (λ t. cond {A = ℕ} t 1 0) is in absurd (omega (arith, one, none))

      pub saved_machine : IsMachine (record core { pager = pager'; processes = now; jobs = jobs' })
      saved_machine =
          moved_machine core (record core { pager = pager'; processes = now; jobs = jobs' }) key.process q q' machine (record {
            found = found;
            processes = refl;
            together = ends.together;
            lawful = ends.lawful machine.lawful;
            frames = ends.frames ∙ machine.frames ∙ sym ends.together.size;
            saved = λ test. let jobs = jobs_split test in let saving = savings_split test in omega (arith, jobs, saving);
            slotted =
                let long : suc (length jobs') ≡ length core.jobs = length_permutation core.jobs (makes.job ∷ jobs') makes.taken in
                let slots = ends.slots in
                omega (arith, long, slots);
            slots = refl;
            out = outs_still jobs' none_left (All-tail (IsSaveOut core.processes) makes.job jobs' outs);
            copied = copies_even q q' core.copies ends.together.process ends.copies;
            copies_out = copies_stay core.processes key.process q q' core.copies found ends.copies.stand machine.copies_out;
          })

  -- the list takes the page of a save back
  pub can_return_at : (held : S → List ℕ) (honest : Type 0) (failures : S → ℕ) (pager : PagerSideValue) (slots : PoolValue S) (jobs copies jobs' : List (JobValue S)) (items lent : List (SpaceValue S)) (key : Key) (saved : SavedValue S)
      → IsMachine (record { pager = pager; slots = slots; processes = items; jobs = jobs; copies = copies }) → lent ≡ items → MakesSave held honest failures key jobs jobs' saved → CanReturnAt key.process saved.vpn pager lent
  can_return_at held honest failures pager slots jobs copies jobs' items lent key saved machine same makes =
      subst (λ l. CanReturnAt key.process saved.vpn pager l) (sym same) (by_found (slice_get items key.process) refl)
    where
      by_found : (o : Option (SpaceValue S)) → slice_get items key.process ≡ o → IfSome o (CanReturn saved.vpn pager)
      by_found None is = tt
      by_found (Some q) is = can_come_back held honest failures (record { pager = pager; slots = slots; processes = items; jobs = jobs; copies = copies }) key q jobs' saved machine is makes

  -- the processes that were lent as a slice, to one of which a save comes back
  module _ (held : S → List ℕ) (honest : Type 0) (failures : S → ℕ) (pager pager' : PagerSideValue) (slots : PoolValue S) (jobs copies jobs' : List (JobValue S)) (items lent new : List (SpaceValue S)) (n : ℕ) (key : Key) (saved : SavedValue S) (outcome : SaveOutcome S)
      (machine : IsMachine (record { pager = pager; slots = slots; processes = items; jobs = jobs; copies = copies })) (long : n ≡ length items) (same : lent ≡ items)
      (makes : MakesSave held honest failures key jobs jobs' saved) (at : SavedAt held honest saved pager pager' key.process lent new outcome) where
    abbrev core : CoreValue S
    core = record { pager = pager; slots = slots; processes = items; jobs = jobs; copies = copies }

    abbrev after : CoreValue S
    after = record { pager = pager'; slots = slots; processes = take n (new ++ drop (length new) items); jobs = jobs'; copies = copies }

    found_lent : slice_get items key.process ≡ Some at.process
    found_lent = ap (λ l. slice_get l key.process) (sym same) ∙ at.found

    is_set : slice_set items key.process at.process' ≡ take n (new ++ drop (length new) items)
    is_set =
        let is : new ≡ slice_set items key.process at.process' = at.is ∙ ap (λ l. slice_set l key.process at.process') same in
        sym is ∙ sym (lent_back items new n long (ap length is ∙ length-set items key.process at.process'))

    pub is_own : IsOwn outcome
    is_own = own held honest failures core key at.process jobs' saved machine found_lent makes outcome pager' at.process' at.ends

    module _ (answer : Reply) (told : RepliesTo outcome answer) where
      ends_told : EndsSaving saved pager pager' at.process at.process' answer
      ends_told = ends_with held honest failures core key at.process jobs' saved machine found_lent makes outcome pager' at.process' answer at.ends told

      counts : SaveEnds saved.vpn pager.pager pager'.pager at.process at.process'
      counts = ended held honest failures core key at.process jobs' saved machine found_lent makes pager' at.process' answer ends_told

      pub saved_size : pager'.pager.size ≡ pager.pager.size
      saved_size = counts.together.size

      pub saved_back : IsMachine after
      saved_back =
          subst (λ l. IsMachine (record { pager = pager'; slots = slots; processes = l; jobs = jobs'; copies = copies })) is_set
          (saved_machine held honest failures core key at.process jobs' saved machine found_lent makes pager' at.process' counts)

      pub saved_once : (old : CoreValue S) → core ≡ old → saved_refusal key items ≡ None → SavesOnce held honest failures key old after answer
      saved_once old is allowed =
          subst (λ o. SavesOnce held honest failures key o after answer) is
          (record {
            allowed = allowed;
            process = at.process;
            process' = at.process';
            found = found_lent;
            saved = saved;
            makes = makes;
            ends = ends_told;
            memory = at.memory;
            processes = sym is_set;
            stays = refl;
          })
