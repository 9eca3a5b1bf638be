-- The machine stays one by each event of a process, and by a sweep.
use Rattle.std.proofs.Common.{◌≡◌, ℕ, ◌<◌, false, ◌≤◌, ◌++◌, take, drop, List, length, Option, Some, None, slice_get, refl, sym, ap, ◌∙◌, arith, subst}
use Rattle.std.specs.Prelude.{slice_set}
use Rattle.std.proofs.lemmas.Option.{slice_get_within}
use Rattle.std.proofs.lemmas.List.{length-set, take_all, drop_all, append-nil}
use Rattle.clock_policy.specs.declared.key.Key.{Key}
use Rattle.clock_policy.specs.declared.answer.Bit.{Bit}
use Rattle.clock_policy.specs.declared.answer.Verdict.{Verdict}
use Rattle.clock_policy.proofs.ClockLaws.{answered_lawful}
use Rattle.clock_policy.specs.ClockPro.{question_of}
use Rattle.clock_policy.proofs.KeptLaws.{answered_frames}
use Rattle.clock_policy.specs.Lawful.{Lawful}
use Rattle.clock_policy.specs.Residents.{is_gone}
use Rattle.pager_core.specs.Pager.{PagerState, pager_answered}
use Rattle.flat_machine.specs.declared.end.End.{End}
use Rattle.flat_machine.specs.declared.end.KillCause.{KillCause}
use Rattle.paged_memory.proofs.access_laws.AlikeLaws.{CountsAlike, same_memory, kept_alike, noticed_alike, emptied_alike}
use Rattle.paged_memory.specs.Paged.{PagedValue}
use Rattle.space_core.specs.Caches.{if_killed}
use Rattle.space_core.specs.declared.progress.SliceStop.{SliceStop}
use Rattle.machine_core.specs.Machine.{CoreValue, IsMachine}
use Rattle.page_store.specs.JobValue.{JobValue}
use Rattle.swap_slots.specs.PoolValue.{PoolValue}
use Rattle.clock_policy.specs.declared.answer.Verdict.TheVariants.{GoOn}
use Rattle.clock_policy.specs.declared.answer.Verdict.TheVariants as verdict
use Rattle.machine_core.specs.declared.event.Reply.{Reply}
use Rattle.machine_core.specs.declared.event.Reply.TheVariants.{Asked as AskedReply, Victim}
use Rattle.machine_sides.specs.declared.sweeping.Swept.{Swept}
use Rattle.machine_sides.specs.declared.sweeping.Swept.TheVariants as swept
use Rattle.machine_core.specs.MachineRun.{ChangesOne, of_process, used_bit, SweepsAt, SweepsOnce, sweep_reply, swept_reply}
use Rattle.machine_sides.specs.ProcessCalls.{StepsOnce, TakesNotices, IsKilled}
use Rattle.machine_sides.specs.Sides.{PagerSideValue}
use Rattle.machine_sides.specs.Sweeping.{AnswersQuestion, Sweeps}
use Rattle.machine_sides.proofs.SweepLaws.{answers_together, answers_rest}
use Rattle.machine_sides.proofs.TogetherLaws.{alike_residents, alike_frames, alike_rest}
use Rattle.machine_core.specs.declared.error.EventRefusal.{EventRefusal}
use Rattle.machine_core.proofs.Finding.{Asked, HasResident, asked_process, bit_there}
use Rattle.machine_core.proofs.Kept.{moved_machine, out_stays, copies_stay, copies_even}
use Rattle.space_core.specs.StandsFor.{SpaceValue}

-- a process that an event is not refused for is there
pub is_there : {S : Type 0} (reason : SpaceValue S → Option EventRefusal) (processes : List (SpaceValue S)) (p : ℕ) → None ≡ of_process reason (slice_get processes p) → p < length processes
is_there reason processes p h = by_process (slice_get processes p) refl
  where
    by_process : (o : Option (SpaceValue _)) → slice_get processes p ≡ o → p < length processes
    by_process None at = let e = h ∙ ap (of_process reason) at in cc
    by_process (Some process) at = slice_get_within processes p process at

-- a list that was lent as a slice
pub lent_back : {A : Type 0} (items new : List A) (n : ℕ) → n ≡ length items → length new ≡ length items → take n (new ++ drop (length new) items) ≡ new
lent_back items new n long same = let past : length items ≤ length new = omega (arith, same) in rw (drop_all (length new) items past, append-nil new) (take_all n new (omega (arith, long, same)))

module _ {S : Type 0} where
  pub alike_machine : (core : CoreValue S) (p : ℕ) (q q' : SpaceValue S) → IsMachine core → slice_get core.processes p ≡ Some q → CountsAlike q.memory q'.memory
      → IsMachine (record core { processes = slice_set core.processes p q' })
  alike_machine core p q q' machine found alike =
      moved_machine core (record core { processes = slice_set core.processes p q' }) p q q' machine (record {
        found = found;
        processes = refl;
        together = record {
          listed = λ test. let a = alike_residents q q' alike test in omega (arith, a);
          framed = λ test. let a = alike_frames q q' alike test in omega (arith, a);
          size = refl;
          process = alike.process;
        };
        lawful = machine.lawful;
        frames = machine.frames;
        saved = λ test. let a = (alike_rest q q' alike).savings test in omega (arith, a);
        slotted = let a = alike.slots in omega (arith, a);
        slots = refl;
        out = out_stays core.processes p q q' core.jobs found alike.stay machine.out;
        copied = copies_even q q' core.copies alike.process alike.copies;
        copies_out = copies_stay core.processes p q q' core.copies found alike.copies.stand machine.copies_out;
      })

  -- the processes that were lent as a slice, of which one changed
  pub lent_machine : (by : SpaceValue S → SpaceValue S → Type 0) (alike : (q q' : SpaceValue S) → by q q' → CountsAlike q.memory q'.memory)
      (pager : PagerSideValue) (slots : PoolValue S) (jobs copies : List (JobValue S)) (items lent new : List (SpaceValue S)) (n p : ℕ)
      → IsMachine (record { pager = pager; slots = slots; processes = items; jobs = jobs; copies = copies }) → n ≡ length items → lent ≡ items → ChangesOne by p lent new
      → IsMachine (record { pager = pager; slots = slots; processes = take n (new ++ drop (length new) items); jobs = jobs; copies = copies })
  lent_machine by alike pager slots jobs copies items lent new n p machine long same one =
      let core : CoreValue S = record { pager = pager; slots = slots; processes = items; jobs = jobs; copies = copies } in
      let found : slice_get items p ≡ Some one.process = ap (λ l. slice_get l p) (sym same) ∙ one.found in
      let is : new ≡ slice_set items p one.process' = one.is ∙ ap (λ l. slice_set l p one.process') same in
      let all : slice_set items p one.process' ≡ take n (new ++ drop (length new) items) = sym is ∙ sym (lent_back items new n long (ap length is ∙ length-set items p one.process')) in
      subst (λ l. IsMachine (record { pager = pager; slots = slots; processes = l; jobs = jobs; copies = copies })) all (alike_machine core p one.process one.process' machine found (alike one.process one.process' one.how))

  pub step_alike : (held : S → List ℕ) (honest : Type 0) (hart : ℕ) (why : SliceStop) (q q' : SpaceValue S) → StepsOnce held honest hart why q q' → CountsAlike q.memory q'.memory
  step_alike held honest hart why q q' how = kept_alike q.memory q'.memory how.slice.kept.process how.slice.kept.pages how.slice.kept.copies

  pub notice_alike : (hart : ℕ) (q q' : SpaceValue S) → TakesNotices hart q q' → CountsAlike q.memory q'.memory
  notice_alike hart q q' how = subst (λ (r : SpaceValue S). CountsAlike q.memory r.memory) (sym how) (noticed_alike hart q.memory)

  killed_same : (memory : PagedValue S) (ending : Option End) → CountsAlike memory (if_killed ending memory)
  killed_same memory None = emptied_alike memory
  killed_same memory (Some end) = same_memory memory memory refl

  pub kill_alike : (cause : KillCause) (q q' : SpaceValue S) → IsKilled cause q q' → CountsAlike q.memory q'.memory
  kill_alike cause q q' how = subst (λ (r : SpaceValue S). CountsAlike q.memory r.memory) (sym how) (killed_same q.memory q.running.ending)

  -- the same of a sweep, whose page is resident
  pub swept_machine : (core : CoreValue S) (pager' : PagerSideValue) (q q' : SpaceValue S) (key : Key) (bit : Bit) (verdict : Verdict) → IsMachine core → slice_get core.processes key.process ≡ Some q
      → HasResident q key → AnswersQuestion core.pager pager' q q' key bit verdict → IsMachine (record core { pager = pager'; processes = slice_set core.processes key.process q' })
  unfolding pager_answered
  swept_machine core pager' q q' key bit verdict machine found there answers =
      let not_gone : is_gone bit ≡ false = ap is_gone (sym answers.bit_is) ∙ bit_there q key there in
      let now : pager'.pager ≡ pager_answered bit core.pager.pager = ap (λ (p : PagerSideValue). p.pager) answers.pager_is in
      let rest = answers_rest core.pager pager' q q' key bit verdict there.small answers in
      moved_machine core (record core { pager = pager'; processes = slice_set core.processes key.process q' }) key.process q q' machine (record {
        found = found;
        processes = refl;
        together = answers_together core.pager pager' q q' key bit verdict machine.lawful there.small (sym there.of_process) not_gone answers;
        lawful = subst (λ (p : PagerState). Lawful p.list) (sym now) (answered_lawful bit core.pager.pager.list machine.lawful);
        frames = ap (λ (p : PagerState). p.list.frames) now ∙ answered_frames bit core.pager.pager.list ∙ machine.frames ∙ sym (ap (λ (p : PagerState). p.size) now);
        saved = λ test. let a = rest.savings test in omega (arith, a);
        slotted = let a = rest.slots in omega (arith, a);
        slots = refl;
        out = out_stays core.processes key.process q q' core.jobs found rest.stay machine.out;
        copied = copies_even q q' core.copies (answers_together core.pager pager' q q' key bit verdict machine.lawful there.small (sym there.of_process) not_gone answers).process rest.copies;
        copies_out = copies_stay core.processes key.process q q' core.copies found rest.copies.stand machine.copies_out;
      })

  -- the sweep that was made for the page of the question
  answers_of : (core : CoreValue S) (pager' : PagerSideValue) (key : Key) (q q' : SpaceValue S) (result : Swept) → question_of core.pager.pager.list ≡ Some key → Sweeps core.pager pager' q q' result
      → (bit : Bit) × ((verdict : Verdict) × (AnswersQuestion core.pager pager' q q' key bit verdict × (swept_reply result ≡ sweep_reply key bit verdict)))
  answers_of core pager' key q q' swept.NothingResident asks how = let none = how.0 in cc
  answers_of core pager' key q q' (swept.Asked k bit) asks how =
      let same : k ≡ key = let e = how.question in cc in
      (bit, (GoOn, (subst (λ x. AnswersQuestion core.pager pager' q q' x bit GoOn) same how, ap (λ x. AskedReply x (used_bit bit)) same)))
  answers_of core pager' key q q' (swept.Victim k) asks how =
      let same : k ≡ key = let e = how.1.question in cc in
      (how.0, (verdict.Victim k, (subst (λ x. AnswersQuestion core.pager pager' q q' x how.0 (verdict.Victim k)) same how.1, ap (λ x. Victim x) same)))

  module _ (pager pager' : PagerSideValue) (slots : PoolValue S) (jobs copies : List (JobValue S)) (items lent new : List (SpaceValue S)) (n : ℕ) (key : Key) (result : Swept)
      (machine : IsMachine (record { pager = pager; slots = slots; processes = items; jobs = jobs; copies = copies })) (asks : question_of pager.pager.list ≡ Some key)
      (long : n ≡ length items) (same : lent ≡ items) (sweeps : SweepsAt pager pager' key.process lent new result) where
    abbrev pub core : CoreValue S
    core = record { pager = pager; slots = slots; processes = items; jobs = jobs; copies = copies }

    found : slice_get items key.process ≡ Some sweeps.process
    found = ap (λ l. slice_get l key.process) (sym same) ∙ sweeps.found

    is_set : slice_set items key.process sweeps.process' ≡ take n (new ++ drop (length new) items)
    is_set =
        let is : new ≡ slice_set items key.process sweeps.process' = sweeps.is ∙ ap (λ l. slice_set l key.process sweeps.process') same in
        sym is ∙ sym (lent_back items new n long (ap length is ∙ length-set items key.process sweeps.process'))

    asked : Asked core key
    asked = asked_process core key machine asks

    there : HasResident sweeps.process key
    there = let e : asked.process ≡ sweeps.process = let a = asked.found in let b = found in cc in subst (λ (q : SpaceValue S). HasResident q key) e asked.resident

    pub swept_back : IsMachine (record { pager = pager'; slots = slots; processes = take n (new ++ drop (length new) items); jobs = jobs; copies = copies })
    swept_back =
        let a = answers_of core pager' key sweeps.process sweeps.process' result asks sweeps.how in
        subst (λ l. IsMachine (record { pager = pager'; slots = slots; processes = l; jobs = jobs; copies = copies })) is_set (swept_machine core pager' sweeps.process sweeps.process' key a.0 a.1.0 machine found there a.1.1.0)

    pub swept_once : (reply : Reply) → reply ≡ swept_reply result → SweepsOnce core (record { pager = pager'; slots = slots; processes = take n (new ++ drop (length new) items); jobs = jobs; copies = copies }) reply
    swept_once reply is =
        let a = answers_of core pager' key sweeps.process sweeps.process' result asks sweeps.how in
        record {
          key = key;
          bit = a.0;
          verdict = a.1.0;
          process = sweeps.process;
          process' = sweeps.process';
          found = found;
          answers = a.1.1.0;
          there = ap is_gone (sym a.1.1.0.bit_is) ∙ bit_there sweeps.process key there;
          processes = sym is_set;
          stays = refl;
          reply_is = is ∙ a.1.1.1;
        }

    pub swept_told : (old : CoreValue S) (reply : Reply) → core ≡ old → reply ≡ swept_reply result → SweepsOnce old (record { pager = pager'; slots = slots; processes = take n (new ++ drop (length new) items); jobs = jobs; copies = copies }) reply
    swept_told old reply e is = subst (λ o. SweepsOnce o (record { pager = pager'; slots = slots; processes = take n (new ++ drop (length new) items); jobs = jobs; copies = copies }) reply) e (swept_once reply is)

    pub swept_size : pager'.pager.size ≡ pager.pager.size
    unfolding pager_answered
    swept_size =
        let a = answers_of core pager' key sweeps.process sweeps.process' result asks sweeps.how in
        ap (λ (p : PagerSideValue). p.pager.size) a.1.1.0.pager_is
