-- The machine stays one where a copy that is out comes back, and what that comes to.
use Rattle.std.proofs.Common.{◌≡◌, ℕ, zero, suc, ◌+◌, ◌≤◌, ◌<◌, ◌^◌, ◌==◌, Bool, true, false, cond, List, [], ◌∷◌, ◌++◌, length, Option, Some, None, is_some, slice_get, position, take, drop, inl, inr, refl, sym, ap, ◌∙◌, arith, subst}
use Rattle.std.specs.Prelude.{slice_set, All}
use Rattle.std.proofs.lemmas.Bool.Decides.{eqb_tells}
use Rattle.std.proofs.lemmas.List.{length-set}
use Rattle.std.proofs.lemmas.List.Elements.{All-nil, All-cons, All-head, All-tail}
use Rattle.std.proofs.lemmas.List.Sorted.{All-permutation, length_permutation}
use borrow.Author.Tests.{eqb-true}
use Rattle.clock_policy.proofs.AdmitLaws.{one_key}
use Rattle.clock_policy.specs.Residents.{is_key}
use Rattle.clock_policy.specs.declared.key.Key.{Key}
use Rattle.page_store.specs.JobValue.{JobValue, SavedValue}
use Rattle.page_store.specs.declared.answer.Cleaned.{Cleaned}
use Rattle.page_store.specs.declared.answer.Cleaned.TheVariants as end
use Rattle.paged_memory.proofs.cleaning_laws.CleanBarLaws.{copy_there, stands_back}
use Rattle.paged_memory.proofs.cleaning_laws.CleanLaws.{HasCleaned, clean_comes_to}
use Rattle.paged_memory.specs.Coheres.{HoldsIn}
use Rattle.paged_memory.specs.cleaning.Copies.{CopyStands, is_copied_in}
use Rattle.space_core.specs.StandsFor.{SpaceValue}
use Rattle.swap_slots.specs.PoolValue.{PoolValue}
use Rattle.machine_core.specs.CleaningEvents.{cleaned_refusal, unless_out, CleanedOnce, RepliesBack}
use Rattle.machine_core.specs.CleaningSteps.{CopyBackAt, IsOwnCopy}
use Rattle.machine_core.specs.Machine.{CoreValue, IsMachine, IsCopyOut, total, jobs_where}
use Rattle.machine_core.specs.MachineRun.{of_process}
use Rattle.machine_core.specs.SavingOut.{is_save_of, MakesSave}
use Rattle.machine_core.proofs.TotalLaws.{total_set, got_set, get_set_same, get_set_other}
use Rattle.machine_core.specs.declared.event.Reply.{Reply}
use Rattle.machine_core.proofs.Cores.{lent_back}
use Rattle.machine_core.proofs.Finding.{total_some}
use Rattle.machine_core.proofs.JobsOut.{both_true, same_key, total_permuted}
use Rattle.machine_core.proofs.Kept.{moved_machine, out_stays}
use Rattle.machine_sides.specs.Cleaning.{TakesCopyBack}
use Rattle.machine_sides.proofs.CleaningLaws.{in_place_together, in_place_savings, back_copies}
use Rattle.machine_sides.specs.Sides.{PagerSideValue}
use Rattle.machine_sides.specs.Together.{copies_in, key_of}

module _ {S : Type 0} where
  -- a process that counts for a page has a copy of it out
  copy_counted : (space : SpaceValue S) (key : Key) → 1 ≤ copies_in space (is_key key) → (space.memory.process ≡ key.process) × (is_copied_in space.memory key.vpn ≡ true)
  unfolding copies_in
  copy_counted space key h =
      let found = copy_there space.memory (λ vpn. is_key key (key_of space.memory.process vpn)) h in
      let same = both_true (space.memory.process == key.process) (found.number == key.vpn) found.passes in (
        eqb-true space.memory.process key.process same.0,
        ap (is_copied_in space.memory) (sym (eqb-true found.number key.vpn same.1)) ∙ found.copied,
      )

  module _ (held : S → List ℕ) (honest : Type 0) (failures : S → ℕ) (core : CoreValue S) (key : Key) (q : SpaceValue S) (copies' : List (JobValue S)) (job : SavedValue S)
      (machine : IsMachine core) (found : slice_get core.processes key.process ≡ Some q) (makes : MakesSave held honest failures key core.copies copies' job) where
    outs : All (IsCopyOut core.processes) (makes.job ∷ copies')
    outs = All-permutation (IsCopyOut core.processes) core.copies (makes.job ∷ copies') makes.taken machine.copies_out

    out : IsCopyOut core.processes makes.job
    out = All-head (IsCopyOut core.processes) makes.job copies' outs

    here : out.process ≡ q
    here = let a = out.found in let b = found in let c = makes.job_process in cc

    vpn_is : job.vpn ≡ key.vpn
    vpn_is = makes.page ∙ makes.job_page

    number : q.memory.process ≡ key.process
    number = machine.numbered key.process q found

    small : job.vpn < 2 ^ 20
    small = let s = out.small in let e = makes.page in omega (arith, s, e)

    stands : CopyStands job.vpn job.copy q.memory
    stands =
        subst (λ bytes. CopyStands job.vpn bytes q.memory) (sym makes.copy)
        (subst (λ v. CopyStands v makes.job.copy q.memory) (sym makes.page)
        (subst (λ (r : SpaceValue S). CopyStands makes.job.vpn makes.job.copy r.memory) here out.stands))

    pub own_copy : (q' : SpaceValue S) (came : Cleaned S) → HoldsIn held honest q.memory → TakesCopyBack job came q q' → IsOwnCopy came
    own_copy q' (end.WrongPage back) agree ends = ends.ends.1.1 (stands_back held honest q.memory job agree (makes.process ∙ makes.job_process ∙ sym number) small stands)
    own_copy q' end.Stored agree ends = tt
    own_copy q' end.Device agree ends = tt
    own_copy q' end.Clean agree ends = tt

    has_cleaned : (q' : SpaceValue S) (came : Cleaned S) → IsOwnCopy came → TakesCopyBack job came q q' → HasCleaned job q.memory q'.memory
    has_cleaned q' (end.WrongPage back) own ends = absurd own
    has_cleaned q' end.Stored own ends = clean_comes_to job end.Stored q.memory q'.memory ends.only ends.ends
    has_cleaned q' end.Device own ends = clean_comes_to job end.Device q.memory q'.memory ends.only ends.ends
    has_cleaned q' end.Clean own ends = clean_comes_to job end.Clean q.memory q'.memory ends.only ends.ends

    -- ---- the machine stays one

    module _ (q' : SpaceValue S) (has : HasCleaned job q.memory q'.memory) where
      abbrev now : List (SpaceValue S)
      now = slice_set core.processes key.process q'

      this : key_of q.memory.process job.vpn ≡ key
      this = one_key _ key number vpn_is

      jobs_split : (test : Key → Bool) → jobs_where test core.copies ≡ cond (test key) 1 0 + jobs_where test copies'
      unfolding jobs_where total
      jobs_split test =
          let moved : cond (test (key_of makes.job.process makes.job.vpn)) 1 0 + total (λ (job : JobValue S). cond (test (key_of job.process job.vpn)) 1 0) copies' ≡ total (λ (job : JobValue S). cond (test (key_of job.process job.vpn)) 1 0) core.copies = total_permuted (λ (job : JobValue S). cond (test (key_of job.process job.vpn)) 1 0) core.copies (makes.job ∷ copies') makes.taken in
          let same : cond {A = ℕ} (test (key_of makes.job.process makes.job.vpn)) 1 0 ≡ cond (test key) 1 0 = ap (λ k. cond {A = ℕ} (test k) 1 0) (one_key _ key makes.job_process makes.job_page) in
          omega (arith, moved, same)

      copies_split : (test : Key → Bool) → copies_in q' test + cond (test key) 1 0 ≡ copies_in q test
      copies_split test = ap (λ k. copies_in q' test + cond (test k) 1 0) (sym this) ∙ back_copies job q q' has test

      now_copied : (test : Key → Bool) → jobs_where test copies' ≡ total (λ (r : SpaceValue S). copies_in r test) now
      now_copied test =
          let jobs = jobs_split test in
          let copied = copies_split test in
          let before = machine.copied test in
          let set = total_set (λ (r : SpaceValue S). copies_in r test) core.processes key.process q q' found in
          omega (arith, jobs, copied, before, set)

      -- no copy of the page is out any more
      none_out : (i : ℕ) (r : SpaceValue S) → slice_get now i ≡ Some r → 1 ≤ copies_in r (is_key key) → ⊥
      none_out i r at some =
          let there = copy_counted r key some in
          let is : r ≡ q' = elim (got_set core.processes key.process i q' r at) [
            | inl e ↦ e.1
            | inr old ↦
                let i_is : i ≡ key.process = sym (machine.numbered i r old) ∙ there.0 in
                let mine = get_set_same core.processes key.process q q' found in
                let both : Some r ≡ Some q' = sym at ∙ ap (slice_get now) i_is ∙ mine in
                cc
          ] in
          let yes : is_copied_in q'.memory key.vpn ≡ true = ap (λ (s : SpaceValue S). is_copied_in s.memory key.vpn) (sym is) ∙ there.1 in
          let no : is_copied_in q'.memory key.vpn ≡ false = ap (is_copied_in q'.memory) (sym vpn_is) ∙ has.back.back in
          cc

      none_left : jobs_where (is_key key) copies' ≡ 0
      none_left = by_count (jobs_where (is_key key) copies') refl
        where
          by_count : (n : ℕ) → jobs_where (is_key key) copies' ≡ n → jobs_where (is_key key) copies' ≡ 0
          by_count zero is = is
          by_count (suc n) is =
              let copied_now = now_copied (is_key key) in
              let one = total_some (λ (r : SpaceValue S). copies_in r (is_key key)) now (omega (arith, is, copied_now)) in
              absurd (none_out one.place one.item one.found one.some)

      out_still : (other : JobValue S) → is_save_of key other ≡ false → IsCopyOut core.processes other → IsCopyOut now other
      out_still other apart_of out_job =
          elim (eqb_tells other.process key.process) [
            | inl same ↦
                let there : out_job.process ≡ q = let a = out_job.found in let b = found in let c = same.1 in cc in
                let apart : other.vpn ≡ job.vpn → ⊥ = λ e. let yes = same_key key other.process other.vpn same.1 (e ∙ vpn_is) in let no = apart_of in cc in
                record {
                  process = q';
                  small = out_job.small;
                  found = ap (slice_get now) same.1 ∙ get_set_same core.processes key.process q q' found;
                  stands = has.back.others.stand other.vpn other.copy out_job.small apart (subst (λ (r : SpaceValue S). CopyStands other.vpn other.copy r.memory) there out_job.stands);
                }
            | inr other_process ↦ record {
              process = out_job.process;
              small = out_job.small;
              found = get_set_other core.processes key.process other.process q' other_process.1 ∙ out_job.found;
              stands = out_job.stands;
            }
          ]

      outs_still : (rest : List (JobValue S)) → jobs_where (is_key key) rest ≡ 0 → All (IsCopyOut core.processes) rest → All (IsCopyOut now) rest
      unfolding jobs_where total
      outs_still [] none all = All-nil _
      outs_still (other ∷ rest) none all =
          All-cons (IsCopyOut now) other rest
          (out_still other (apart (is_save_of key other) refl) (All-head (IsCopyOut core.processes) other rest all))
          (outs_still rest (omega (arith, none)) (All-tail (IsCopyOut core.processes) other rest all))
        where
          apart : (b : Bool) → is_save_of key other ≡ b → is_save_of key other ≡ false
          apart false is = is
          apart true is = let one : cond {A = ℕ} (is_save_of key other) 1 0 ≡ 1 = ap (λ t. cond {A = ℕ} t 1 0) is in absurd (omega (arith, one, none))

      cleaned_machine : IsMachine (record core { processes = now; copies = copies' })
      cleaned_machine =
          moved_machine core (record core { processes = now; copies = copies' }) key.process q q' machine (record {
            found = found;
            processes = refl;
            together = in_place_together q q' job.vpn has.stays core.pager.pager;
            lawful = machine.lawful;
            frames = machine.frames;
            saved = λ test. let a = in_place_savings q q' job.vpn has.stays test in omega (arith, a);
            slotted =
                let long : suc (length copies') ≡ length core.copies = length_permutation core.copies (makes.job ∷ copies') makes.taken in
                let slots = has.slots in
                omega (arith, long, slots);
            slots = refl;
            out = out_stays core.processes key.process q q' core.jobs found has.stays.stay machine.out;
            copied = λ test. let jobs = jobs_split test in let copied = copies_split test in omega (arith, jobs, copied);
            copies_out = outs_still copies' none_left (All-tail (IsCopyOut core.processes) makes.job copies' outs);
          })

  -- ---- the event

  module _ (held : S → List ℕ) (honest : Type 0) (failures : S → ℕ) (pager : PagerSideValue) (slots : PoolValue S) (jobs copies copies' : List (JobValue S)) (items lent new : List (SpaceValue S)) (n : ℕ) (key : Key) (job : SavedValue S) (came : Cleaned S)
      (machine : IsMachine (record { pager = pager; slots = slots; processes = items; jobs = jobs; copies = copies })) (long : n ≡ length items) (same : lent ≡ items)
      (makes : MakesSave held honest failures key copies copies' job) (at : CopyBackAt held honest job key.process lent new came) where
    abbrev core : CoreValue S
    core = record { pager = pager; slots = slots; processes = items; jobs = jobs; copies = copies }

    abbrev after : CoreValue S
    after = record { pager = pager; slots = slots; processes = take n (new ++ drop (length new) items); jobs = jobs; copies = copies' }

    found_lent : slice_get items key.process ≡ Some at.process
    found_lent = ap (λ l. slice_get l key.process) (sym same) ∙ at.found

    is_set : slice_set items key.process at.process' ≡ take n (new ++ drop (length new) items)
    is_set =
        let is : new ≡ slice_set items key.process at.process' = at.is ∙ ap (λ l. slice_set l key.process at.process') same in
        sym is ∙ sym (lent_back items new n long (ap length is ∙ length-set items key.process at.process'))

    pub is_own_copy : IsOwnCopy came
    is_own_copy = own_copy held honest failures core key at.process copies' job machine found_lent makes at.process' came at.agree at.ends

    pub cleaned_back : IsMachine after
    cleaned_back =
        subst (λ l. IsMachine (record core { processes = l; copies = copies' })) is_set
        (cleaned_machine held honest failures core key at.process copies' job machine found_lent makes at.process' (has_cleaned held honest failures core key at.process copies' job machine found_lent makes at.process' came is_own_copy at.ends))

    there_is : (o : Option ℕ) → is_some o ≡ true → unless_out o ≡ None
    there_is None h = cc
    there_is (Some place) h = refl

    pub cleaned_once : (old : CoreValue S) (answer : Reply) → core ≡ old → is_some (position (is_save_of key) copies) ≡ true → RepliesBack came answer → CleanedOnce held honest failures key old after answer
    cleaned_once old answer is at_place told =
        subst (λ o. CleanedOnce held honest failures key o after answer) is
        (record {
          allowed = ap (of_process (λ process. unless_out (position (is_save_of key) copies))) found_lent ∙ there_is (position (is_save_of key) copies) at_place;
          process = at.process;
          process' = at.process';
          found = found_lent;
          job = job;
          makes = makes;
          came = came;
          ends = at.ends;
          told = told;
          memory = at.memory;
          processes = sym is_set;
          stays = refl;
        })
