-- The event of a page that comes in: it is refused, or served, and leaves a machine.
use Rattle.std.proofs.Common.{◌≡◌, ℕ, zero, suc, ◌≤◌, ◌<◌, ◌^◌, ◌⊎◌, ◌++◌, Bool, true, false, List, [], ◌∷◌, length, take, drop, Option, Some, None, option_map, is_some, slice_get, inl, inr, refl, sym, ap, ◌∙◌, arith, subst}
use Rattle.std.specs.Prelude.{slice_set}
use Rattle.std.proofs.lemmas.List.{length-set}
use Rattle.clock_policy.specs.ClockPro.{kind_of, withdrawn}
use Rattle.clock_policy.specs.declared.key.Key.{Key}
use Rattle.page_store.specs.JobValue.{JobValue}
use Rattle.pager_core.specs.Pager.{none_free}
use Rattle.space_core.specs.StandsFor.{SpaceValue}
use Rattle.swap_slots.specs.PoolValue.{PoolValue}
use Rattle.paged_memory.specs.moves.Moving.{RefusesIn}
use Rattle.paged_memory.specs.moves.Stages.{is_absent_stage, is_resident_stage}
use Rattle.paged_memory.proofs.move_laws.StagesLaws.{resident_not_absent}
use Rattle.paged_memory.proofs.move_laws.StillLaws.{refused_still, refused_absent}
use Rattle.paged_memory.specs.Whole.{stage_in}
use Rattle.machine_sides.specs.Admitting.{is_resident_at, is_absent_at, bars, told_by, taken_back}
use Rattle.machine_sides.specs.declared.admission.NotAdmitted.{NotAdmitted}
use Rattle.machine_sides.specs.declared.admission.NotAdmitted.TheVariants.{Ended, NotAbsent, AlreadyResident, NoFrame, NoMemory}
use Rattle.machine_core.specs.declared.error.EventRefusal.{EventRefusal}
use Rattle.machine_core.specs.declared.error.EventRefusal.TheVariants as refusal
use Rattle.machine_core.specs.declared.event.Reply.{Reply}
use Rattle.machine_core.specs.declared.event.Reply.TheVariants.{Refused}
use Rattle.machine_core.specs.Machine.{CoreValue, IsMachine}
use Rattle.machine_core.specs.MachineRun.{of_process, RefusesEvent}
use Rattle.machine_core.specs.PagingIn.{admit_reason, ComesIn, IsTakenBack, GoesBack, PagesIn, PagesInAt, PagesInOnce, page_in_reason, page_in_refusal}
use Rattle.machine_sides.specs.Sides.{PagerSideValue}
use Rattle.machine_sides.proofs.StageLaws.{stage_below}
use Rattle.machine_core.proofs.Cores.{lent_back}
use Rattle.machine_core.proofs.PageInReasons.{unbarred, first_reason, bars_are, reason_is}
use Rattle.machine_core.proofs.PageIns.{come_machine, come_size, go_machine, back_size}

set_same : {A : Type 0} (xs : List A) (i : ℕ) (x : A) → slice_get xs i ≡ Some x → slice_set xs i x ≡ xs
set_same [] i x h = cc
set_same (y ∷ ys) zero x h = let same : y ≡ x = cc in ap (λ z. z ∷ ys) (sym same)
set_same (y ∷ ys) (suc i) x h = ap (λ l. y ∷ l) (set_same ys i x h)

-- no reason is that the page is listed
not_listed : (ended absent none : Bool) → first_reason ended absent none ≡ Some AlreadyResident → ⊥
unfolding first_reason
not_listed true absent none h = cc
not_listed false true true h = cc
not_listed false true false h = cc
not_listed false false none h = cc

module _ {S : Type 0} where
  -- a page that is absent still is not resident
  away_still : (old new : SpaceValue S) (v : ℕ) → v < 2 ^ 20 → is_absent_stage (stage_in old.memory v) ≡ true → stage_in new.memory v ≡ stage_in old.memory v → is_resident_at new v ≡ false
  away_still old new v small absent same = ap is_resident_stage (stage_below new v small ∙ same) ∙ by_test (is_resident_stage (stage_in old.memory v)) refl
    where
      by_test : (b : Bool) → is_resident_stage (stage_in old.memory v) ≡ b → is_resident_stage (stage_in old.memory v) ≡ false
      by_test false is = is
      by_test true is = let no = resident_not_absent (stage_in old.memory v) is in let so = absent in cc

  module _ (held : S → List ℕ) (honest : Type 0) (failures : S → ℕ) (core : CoreValue S) (key : Key) (pager' : PagerSideValue) (q q' : SpaceValue S) (reply : Reply) (machine : IsMachine core) (found : slice_get core.processes key.process ≡ Some q) where
    -- an admission that was taken back: the page is absent as it was
    goes_back : IsTakenBack held honest failures key core.pager pager' q q' reply → GoesBack held honest failures key core.pager pager' q q' reply
    goes_back taken =
        let there = (unbarred key core.pager.pager q taken.admits.allowed).there in
        let vpn_is : taken.admission.key.vpn ≡ key.vpn = ap (λ (k : Key). k.vpn) taken.admits.key_is in
        let key_is : taken.back.key ≡ key = taken.fails.key ∙ taken.admits.key_is in
        let small : taken.admission.key.vpn < 2 ^ 20 = let s = there.small in omega (arith, s, vpn_is) in
        let why : RefusesIn held honest failures taken.admission.frame key.vpn taken.back.frame taken.fault q.memory q'.memory =
        subst (λ v. RefusesIn held honest failures taken.admission.frame v taken.back.frame taken.fault q.memory q'.memory) vpn_is (taken.fails.why small) in
        let still = refused_still held honest failures taken.admission.frame key.vpn taken.back.frame q.memory q'.memory taken.fault why in
        let away : is_resident_at q' taken.back.key.vpn ≡ false = ap (λ (k : Key). is_resident_at q' k.vpn) key_is ∙ away_still q q' key.vpn there.small there.absent still in
        record {
          admission = taken.admission;
          back = taken.back.frame;
          fault = taken.fault;
          between = taken.between;
          admits = taken.admits;
          why = why;
          absent = λ same. refused_absent held honest failures taken.admission.frame key.vpn taken.back.frame q.memory q'.memory taken.fault why there.absent same;
          unmapped = taken.fails.unmapped;
          rest = taken.fails.rest;
          withdraws =
              taken.undone
              ∙ ap (λ list. record taken.between { pager = record taken.between.pager { list = list; free = taken.between.pager.free ++ taken.back.frame ∷ [] } })
              (ap (λ b. taken_back b taken.back.key taken.between.pager.list) away ∙ ap (λ k. (withdrawn k taken.between.pager.list).0) key_is);
          reply_is = taken.reply_is;
        }

    abbrev pub after : CoreValue S
    after = record core { pager = pager'; processes = slice_set core.processes key.process q' }

    -- what comes of the event
    pub record Outcome : Type 0 where
      pub served : RefusesEvent (page_in_refusal key core) core after reply ⊎ PagesInOnce held honest failures key core after reply
      pub is_machine : IsMachine after
      pub size : pager'.pager.size ≡ core.pager.pager.size

    reason_told : (reason : Option NotAdmitted) → bars key core.pager.pager q ≡ reason → page_in_refusal key core ≡ option_map admit_reason reason
    reason_told reason barred =
        ap (of_process (page_in_reason key.vpn core.pager.pager.free)) found
        ∙ reason_is key.vpn core.pager.pager.free q
        ∙ ap (option_map admit_reason) (sym (bars_are core key q machine found) ∙ barred)

    come : ComesIn held honest failures key core.pager pager' q q' reply → Outcome
    come comes = record {
      served = inr (record {
        allowed = reason_told None comes.admits.allowed;
        process = q;
        process' = q';
        found = found;
        how = inl comes;
        processes = refl;
        stays = refl;
      });
      is_machine = come_machine held honest failures core key pager' q q' reply machine found comes;
      size = come_size held honest failures core key pager' q q' reply machine found comes;
    }

    go : GoesBack held honest failures key core.pager pager' q q' reply → Outcome
    go goes = record {
      served = inr (record {
        allowed = reason_told None goes.admits.allowed;
        process = q;
        process' = q';
        found = found;
        how = inr (inl goes);
        processes = refl;
        stays = refl;
      });
      is_machine = go_machine held honest failures core key pager' q q' reply machine found goes;
      size = back_size held honest failures core key pager' q q' reply machine found goes;
    }

    -- what is barred changes nothing
    module _ (same_pager : pager' ≡ core.pager) (same_process : q' ≡ q) where
      unchanged : after ≡ core
      unchanged =
          ap (λ p. record core { pager = p; processes = slice_set core.processes key.process q' }) same_pager
          ∙ ap (λ l. record core { processes = l }) (ap (slice_set core.processes key.process) same_process ∙ set_same core.processes key.process q found)

      still_machine : IsMachine after
      still_machine = subst IsMachine (sym unchanged) machine

      still_size : pager'.pager.size ≡ core.pager.pager.size
      still_size = ap (λ (p : PagerSideValue). p.pager.size) same_pager

      is_refused : (why : EventRefusal) → page_in_refusal key core ≡ Some why → reply ≡ Refused why → Outcome
      is_refused why told answered = record { served = inl (record { refusal = why; reason_is = told; reply_is = answered; stays = unchanged }); is_machine = still_machine; size = still_size }

      by_reason : (reason : NotAdmitted) → bars key core.pager.pager q ≡ told_by reason → (reason ≡ NoMemory → kind_of key core.pager.pager.list.entries ≡ None) → reply ≡ Refused (admit_reason reason) → Outcome
      by_reason Ended why grows answered = is_refused refusal.Ended (reason_told (Some Ended) why) answered
      by_reason NotAbsent why grows answered = is_refused refusal.NotAbsent (reason_told (Some NotAbsent) why) answered
      by_reason AlreadyResident why grows answered = absurd (not_listed (is_some q.running.ending) (is_absent_at q key.vpn) (none_free core.pager.pager.free) (sym (bars_are core key q machine found) ∙ why))
      by_reason NoFrame why grows answered = is_refused refusal.NoFrame (reason_told (Some NoFrame) why) answered
      by_reason NoMemory why grows answered = record {
        served = inr (record {
          allowed = reason_told None why;
          process = q;
          process' = q';
          found = found;
          how = inr (inr (record { unlisted = grows refl; pager_is = same_pager; process_is = same_process; reply_is = answered }));
          processes = refl;
          stays = refl;
        });
        is_machine = still_machine;
        size = still_size;
      }

    pub outcome : PagesIn held honest failures key core.pager pager' q q' reply → Outcome
    outcome pages =
        elim pages [
          | inl barred ↦ by_reason barred.why.stays barred.stays barred.reason barred.why.why barred.why.grows barred.reply_is
          | inr rest ↦ elim rest [ inl comes ↦ come comes | inr taken ↦ go (goes_back taken) ]
        ]

  -- the processes were lent as a slice
  module _ (held : S → List ℕ) (honest : Type 0) (failures : S → ℕ) (pager pager' : PagerSideValue) (slots : PoolValue S) (jobs copies : List (JobValue S)) (items lent new : List (SpaceValue S)) (n : ℕ) (key : Key) (reply : Reply)
      (machine : IsMachine (record { pager = pager; slots = slots; processes = items; jobs = jobs; copies = copies })) (long : n ≡ length items) (same : lent ≡ items)
      (pages : PagesInAt held honest failures key pager pager' lent new reply) where
    abbrev pub lent_core : CoreValue S
    lent_core = record { pager = pager; slots = slots; processes = items; jobs = jobs; copies = copies }

    abbrev pub core_back : CoreValue S
    core_back = record { pager = pager'; slots = slots; processes = take n (new ++ drop (length new) items); jobs = jobs; copies = copies }

    there_at : slice_get items key.process ≡ Some pages.process
    there_at = ap (λ l. slice_get l key.process) (sym same) ∙ pages.found

    is_set : slice_set items key.process pages.process' ≡ take n (new ++ drop (length new) items)
    is_set =
        let is : new ≡ slice_set items key.process pages.process' = pages.is ∙ ap (λ l. slice_set l key.process pages.process') same in
        sym is ∙ sym (lent_back items new n long (ap length is ∙ length-set items key.process pages.process'))

    out : Outcome held honest failures lent_core key pager' pages.process pages.process' reply machine there_at
    out = outcome held honest failures lent_core key pager' pages.process pages.process' reply machine there_at pages.how

    is_back : after held honest failures lent_core key pager' pages.process pages.process' reply machine there_at ≡ core_back
    is_back = ap (λ l. record lent_core { pager = pager'; processes = l }) is_set

    pub page_in_machine : IsMachine core_back
    page_in_machine = subst IsMachine is_back out.is_machine

    pub page_in_size : pager'.pager.size ≡ pager.pager.size
    page_in_size = out.size

    pub page_in_served : (old : CoreValue S) → lent_core ≡ old → RefusesEvent (page_in_refusal key old) old core_back reply ⊎ PagesInOnce held honest failures key old core_back reply
    page_in_served old e =
        subst (λ c. RefusesEvent (page_in_refusal key c) c core_back reply ⊎ PagesInOnce held honest failures key c core_back reply) e
        (subst (λ c. RefusesEvent (page_in_refusal key lent_core) lent_core c reply ⊎ PagesInOnce held honest failures key lent_core c reply) is_back out.served)
