-- The machine stays one where a copy of a page is asked for, and what that comes to.
use Rattle.std.proofs.Common.{◌≡◌, ◌⊎◌, ℕ, ◌+◌, ◌<◌, ◌≤◌, ◌^◌, Bool, true, false, cond, take, drop, List, [], ◌∷◌, ◌++◌, length, length-append, Option, Some, None, Result, Ok, Err, option_map, is_some, nat_lt, slice_get, inl, inr, refl, sym, ap, ◌∙◌, arith, subst}
use Rattle.std.specs.Prelude.{slice_set, All, IfOk, if◌then◌else◌}
use Rattle.std.proofs.lemmas.List.{length-set}
use Rattle.std.proofs.lemmas.List.Elements.{All-nil, All-cons, All-append}
use Rattle.clock_policy.proofs.AdmitLaws.{one_key}
use Rattle.clock_policy.specs.declared.key.Key.{Key}
use Rattle.page_store.specs.JobValue.{JobValue}
use Rattle.page_store.specs.declared.answer.CleanCopy.TheVariants as answered
use Rattle.paged_memory.proofs.access_laws.AlikeLaws.{CountsAlike}
use Rattle.paged_memory.proofs.cleaning_laws.CleanBarLaws.{goes_keeps}
use Rattle.paged_memory.specs.cleaning.Cleaning.{refused_of, is_cleaning_in}
use Rattle.paged_memory.specs.cleaning.Copies.{CopyStands}
use Rattle.swap_slots.specs.PoolValue.{PoolValue}
use Rattle.machine_core.specs.CleaningEvents.{copy_barred, copy_reason, copy_refusal, CopiesOnce, CopiesTo, stored, not_yet, no_slot, copied}
use Rattle.machine_core.specs.CleaningSteps.{copy_reply, copies_after, CopiesAt, IfCopies}
use Rattle.machine_core.specs.Machine.{CoreValue, IsMachine, IsCopyOut, jobs_where}
use Rattle.machine_core.specs.MachineRun.{of_process, RefusesEvent}
use Rattle.machine_core.proofs.TotalLaws.{set_back, get_set_same}
use Rattle.machine_core.specs.declared.event.Reply.{Reply}
use Rattle.machine_core.proofs.Collects.{more_jobs}
use Rattle.machine_core.proofs.Cores.{alike_machine, lent_back}
use Rattle.machine_core.proofs.Counted.{copy_fits}
use Rattle.machine_core.proofs.Kept.{Moves, moved_machine, out_stays, copies_stay}
use Rattle.machine_sides.specs.Cleaning.{PageCopied, copy_bars, is_cleaning_at}
use Rattle.machine_sides.proofs.CleaningLaws.{in_place_together, in_place_savings, copied_to, has_copied, gone_copies, gone_slots}
use Rattle.machine_sides.specs.Sides.{PagerSideValue}
use Rattle.machine_sides.specs.Together.{key_of}
use Rattle.machine_sides.specs.declared.cleaning.CopyBar.{CopyBar}
use Rattle.machine_sides.specs.declared.cleaning.CopyBar.TheVariants as copy
use Rattle.machine_sides.specs.declared.cleaning.Copying.{Copying}
use Rattle.machine_sides.specs.declared.cleaning.Copying.TheVariants.{Stored, NotYet, NoSlot, Copied}
use Rattle.space_core.specs.StandsFor.{SpaceValue}

module _ {S : Type 0} where
  -- a copy is asked for only of a page that is being cleaned
  unbarred : (q : SpaceValue S) (vpn : ℕ) → None ≡ copy_bars q vpn → (vpn < 2 ^ 20) × (is_cleaning_in q.memory vpn ≡ true)
  unbarred q vpn h = by_ending (is_some q.running.ending) h
    where
      by_small : (b : Bool) → nat_lt vpn (2 ^ 20) ≡ b → (if b then is_cleaning_in q.memory vpn else false) ≡ true → (vpn < 2 ^ 20) × (is_cleaning_in q.memory vpn ≡ true)
      by_small true is h = (grind (arith, is), h)
      by_small false is h = cc

      by_cleaning : (b : Bool) → is_cleaning_at q vpn ≡ b → None ≡ (if b then None else Some copy.NotCleaning) → (vpn < 2 ^ 20) × (is_cleaning_in q.memory vpn ≡ true)
      by_cleaning true is h = by_small (nat_lt vpn (2 ^ 20)) refl is
      by_cleaning false is h = cc

      by_ending : (b : Bool) → None ≡ (if b then Some copy.Ended else (if is_cleaning_at q vpn then None else Some copy.NotCleaning)) → (vpn < 2 ^ 20) × (is_cleaning_in q.memory vpn ≡ true)
      by_ending true h = cc
      by_ending false h = by_cleaning (is_cleaning_at q vpn) refl h

  -- ---- a copy goes out

  module _ (core : CoreValue S) (p : ℕ) (q q' : SpaceValue S) (vpn : ℕ) (slots' : PoolValue S) (machine : IsMachine core) (found : slice_get core.processes p ≡ Some q) where
    abbrev after : List (JobValue S) → CoreValue S
    after copies = record core { slots = slots'; processes = slice_set core.processes p q'; copies = copies }

    gone_moves : (job : JobValue S) → PageCopied vpn (answered.Copied job) q q' core.slots slots' → Moves core (after (core.copies ++ job ∷ [])) p q q'
    gone_moves job made =
        let has = has_copied vpn q q' core.slots slots' job made in
        let number : job.process ≡ p = has.process ∙ machine.numbered p q found in
        let out : IsCopyOut (slice_set core.processes p q') job = record {
          process = q';
          small = subst (λ n. n < 2 ^ 20) (sym has.vpn_is) made.lends.small;
          found = ap (slice_get (slice_set core.processes p q')) number ∙ get_set_same core.processes p q q' found;
          stands = subst (λ v. CopyStands v job.copy q'.memory) (sym has.vpn_is) has.goes.stands;
        } in
        let others = copies_stay core.processes p q q' core.copies found (goes_keeps q.memory q'.memory vpn job.copy has.goes) machine.copies_out in
        record {
          found = found;
          processes = refl;
          together = in_place_together q q' vpn has.stays core.pager.pager;
          lawful = machine.lawful;
          frames = machine.frames;
          saved = λ test. let a = in_place_savings q q' vpn has.stays test in omega (arith, a);
          slotted =
              let more : length (core.copies ++ job ∷ []) ≡ length core.copies + 1 = length-append core.copies (job ∷ []) in
              let one = gone_slots vpn q q' core.slots slots' job made in
              omega (arith, more, one);
          slots = made.slots_after.1;
          out = out_stays core.processes p q q' core.jobs found has.stays.stay machine.out;
          copied = λ test.
              let more : jobs_where test (core.copies ++ job ∷ []) ≡ jobs_where test core.copies + cond (test (key_of job.process job.vpn)) 1 0 = more_jobs test core.copies job in
              let key : cond {A = ℕ} (test (key_of job.process job.vpn)) 1 0 ≡ cond (test (key_of q.memory.process vpn)) 1 0 = ap (λ k. cond {A = ℕ} (test k) 1 0) (one_key (key_of job.process job.vpn) (key_of q.memory.process vpn) has.process has.vpn_is) in
              let one = gone_copies vpn q q' core.slots slots' job made test in
              omega (arith, more, key, one);
          copies_out = All-append (IsCopyOut (slice_set core.processes p q')) core.copies (job ∷ []) others (All-cons (IsCopyOut (slice_set core.processes p q')) job [] out (All-nil _));
        }

    uncopied : slots' ≡ core.slots → CountsAlike q.memory q'.memory → IsMachine (after core.copies)
    uncopied same alike = subst (λ s. IsMachine (record core { slots = s; processes = slice_set core.processes p q' })) (sym same) (alike_machine core p q q' machine found alike)

    copy_machine : (r : Result (Copying S) CopyBar) → IfCopies vpn q q' core.slots slots' r → IsMachine (after (copies_after r core.copies))
    copy_machine (Ok Stored) how = uncopied how.slots_after (copied_to vpn q q' core.slots slots' answered.Stored how).0
    copy_machine (Ok NotYet) how = uncopied how.slots_after (copied_to vpn q q' core.slots slots' answered.NotYet how).0
    copy_machine (Ok NoSlot) how = uncopied how.slots_after (copied_to vpn q q' core.slots slots' answered.NoSlot how).0
    copy_machine (Ok (Copied job)) how = moved_machine core (after (core.copies ++ job ∷ [])) p q q' machine (gone_moves job how)
    copy_machine (Err why) how =
        subst IsMachine
        (ap (λ l. record core { processes = l }) (sym (ap (slice_set core.processes p) how.0 ∙ set_back core.processes p q found)) ∙ ap (λ s. record core { slots = s; processes = slice_set core.processes p q' }) (sym how.1))
        machine

    -- and what it comes to
    copies_to : (r : Result (Copying S) CopyBar) (answer : Reply) → answer ≡ copy_reply r → IfCopies vpn q q' core.slots slots' r → IfOk r (λ _. CopiesTo vpn core (after (copies_after r core.copies)) q q' answer)
    copies_to (Ok Stored) answer is how = stored how refl is
    copies_to (Ok NotYet) answer is how = not_yet how refl is
    copies_to (Ok NoSlot) answer is how = no_slot how refl is
    copies_to (Ok (Copied job)) answer is how = copied job how refl is
    copies_to (Err why) answer is how = tt

  -- ---- the event

  module _ (held : S → List ℕ) (pager : PagerSideValue) (slots slots' : PoolValue S) (jobs copies copies' : List (JobValue S)) (items lent new : List (SpaceValue S)) (n : ℕ) (key : Key) (result : Result (Copying S) CopyBar)
      (machine : IsMachine (record { pager = pager; slots = slots; processes = items; jobs = jobs; copies = copies })) (long : n ≡ length items) (same : lent ≡ items) (at : CopiesAt held key.process key.vpn slots slots' lent new result) where
    abbrev core : CoreValue S
    core = record { pager = pager; slots = slots; processes = items; jobs = jobs; copies = copies }

    abbrev left : CoreValue S
    left = record { pager = pager; slots = slots'; processes = take n (new ++ drop (length new) items); jobs = jobs; copies = copies' }

    found_at : slice_get items key.process ≡ Some at.process
    found_at = ap (λ l. slice_get l key.process) (sym same) ∙ at.found

    is_set : slice_set items key.process at.process' ≡ take n (new ++ drop (length new) items)
    is_set =
        let is : new ≡ slice_set items key.process at.process' = at.is ∙ ap (λ l. slice_set l key.process at.process') same in
        sym is ∙ sym (lent_back items new n long (ap length is ∙ length-set items key.process at.process'))

    -- the copy has room
    pub copy_room : IfOk result (λ _. length copies < pager.pager.size)
    copy_room = by_result result at.barred
      where
        by_result : (r : Result (Copying S) CopyBar) → refused_of r ≡ copy_bars at.process key.vpn → IfOk r (λ _. length copies < pager.pager.size)
        by_result (Ok answer) barred = let page = unbarred at.process key.vpn barred in copy_fits core key.process at.process key.vpn machine found_at page.0 page.1
        by_result (Err why) barred = tt

    -- as many as there is room for
    pub copy_fits_in : (count capacity : ℕ) → count ≡ length copies → pager.pager.size ≤ capacity → IfOk result (λ _. count < capacity)
    copy_fits_in count capacity counted wide = by_result result copy_room
      where
        by_result : (r : Result (Copying S) CopyBar) → IfOk r (λ _. length copies < pager.pager.size) → IfOk r (λ _. count < capacity)
        by_result (Ok answer) fits = omega (arith, counted, wide, fits)
        by_result (Err why) fits = tt

    left_is : copies' ≡ copies_after result copies → record core { slots = slots'; processes = slice_set items key.process at.process'; copies = copies_after result copies } ≡ left
    left_is kept = ap (λ l. record core { slots = slots'; processes = l; copies = copies_after result copies }) is_set ∙ ap (λ l. record left { copies = l }) (sym kept)

    pub copy_back : copies' ≡ copies_after result copies → IsMachine left
    copy_back kept = subst IsMachine (left_is kept) (copy_machine core key.process at.process at.process' key.vpn slots' machine found_at result at.how)

    reason_is : copy_refusal key items ≡ option_map copy_barred (refused_of result)
    reason_is = ap (of_process (copy_reason key.vpn)) found_at ∙ ap (option_map copy_barred) (sym at.barred)

    told : (r : Result (Copying S) CopyBar) → r ≡ result → copies' ≡ copies_after r copies → IfCopies key.vpn at.process at.process' slots slots' r → (answer : Reply) → answer ≡ copy_reply r
        → RefusesEvent (copy_refusal key items) core left answer ⊎ CopiesOnce held key core left answer
    told (Ok answer) is kept how reply reply_is = inr (record {
      allowed = reason_is ∙ ap (λ r. option_map copy_barred (refused_of r)) (sym is);
      process = at.process;
      process' = at.process';
      found = found_at;
      comes_to =
          subst (λ c. CopiesTo key.vpn core c at.process at.process' reply) (ap (λ r. record core { slots = slots'; processes = slice_set items key.process at.process'; copies = copies_after r copies }) is ∙ left_is (kept ∙ ap (λ r. copies_after r copies) is))
          (copies_to core key.process at.process at.process' key.vpn slots' machine found_at (Ok answer) reply reply_is how);
      memory = at.memory;
      processes = sym is_set;
      stays = refl;
    })
    told (Err why) is kept how reply reply_is = inl (record {
      refusal = copy_barred why;
      reason_is = reason_is ∙ ap (λ r. option_map copy_barred (refused_of r)) (sym is);
      reply_is = reply_is;
      stays =
          ap (λ l. record left { processes = l }) (sym is_set ∙ ap (slice_set items key.process) how.0 ∙ set_back items key.process at.process found_at)
          ∙ ap (λ s. record core { slots = s; copies = copies' }) how.1 ∙ ap (λ l. record core { copies = l }) kept;
    })

    pub copy_told : (old : CoreValue S) (answer : Reply) → core ≡ old → copies' ≡ copies_after result copies → answer ≡ copy_reply result → RefusesEvent (copy_refusal key old.processes) old left answer ⊎ CopiesOnce held key old left answer
    copy_told old answer e kept is = subst (λ (o : CoreValue S). RefusesEvent (copy_refusal key o.processes) o left answer ⊎ CopiesOnce held key o left answer) e (told result refl kept at.how answer is)
