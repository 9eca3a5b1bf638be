-- List and process agree still, call by call.
use Rattle.std.proofs.Common.{◌≡◌, ℕ, ◌+◌, ◌^◌, ◌==◌, nat_lt, Bool, true, false, ◌&&◌, cond, List, Option, Some, None, is_some, Ok, Err, Result, refl, sym, ap, ◌∙◌, arith, subst}
use Rattle.std.specs.Prelude.{is_ok, OnOk}
use borrow.Author.Tests.{eqb-true}
use Rattle.clock_policy.specs.declared.key.Key.{Key}
use Rattle.clock_policy.specs.declared.answer.Bit.{Bit}
use Rattle.clock_policy.specs.declared.answer.Bit.TheVariants.{Gone}
use Rattle.clock_policy.specs.declared.answer.Verdict.{Verdict}
use Rattle.clock_policy.specs.declared.answer.Verdict.TheVariants.{GoOn, Victim}
use Rattle.clock_policy.proofs.AdmitLaws.{one_key, is_key_self, asked_once, admitted_residents, withdrawn_residents, purged_residents, key_residents}
use Rattle.clock_policy.specs.ClockPro.{withdrawn, admitted, answered}
use Rattle.clock_policy.specs.Lawful.{Lawful}
use Rattle.clock_policy.proofs.ResidentLaws.{answered_residents}
use Rattle.clock_policy.specs.Residents.{residents, is_key, has_resident, is_gone, takes}
use Rattle.paged_memory.proofs.access_laws.AlikeLaws.{CountsAlike, same_residents}
use Rattle.paged_memory.proofs.access_laws.AmongLaws.{no_residents}
use Rattle.paged_memory.proofs.move_laws.ComeLaws.{come}
use Rattle.paged_memory.proofs.move_laws.LeaveLaws.{accessed_stage}
use Rattle.paged_memory.specs.moves.Moving.{SamePage}
use Rattle.paged_memory.proofs.move_laws.SaveLaws.{gone_away}
use Rattle.paged_memory.specs.moves.Stages.{is_resident_stage}
use Rattle.paged_memory.specs.Whole.{stage_in, accessed_in, residents_among}
use Rattle.pager_core.specs.Pager.{PagerState, pager_answered, admitted_with}
use Rattle.space_core.specs.StandsFor.{SpaceValue}
use Rattle.swap_slots.specs.PoolValue.{PoolValue}
use Rattle.page_store.specs.JobValue.{SavedValue}
use Rattle.machine_sides.specs.Admitting.{AdmissionValue, Admits, is_resident_at, taken_back}
use Rattle.machine_sides.specs.Agreeing.{Agree, AgreeStill, AsksOf}
use Rattle.machine_sides.proofs.CollectLaws.{dropped_process, copied_process}
use Rattle.machine_sides.specs.Collecting.{Looks}
use Rattle.machine_sides.specs.declared.collecting.Looked.{Looked}
use Rattle.machine_sides.specs.declared.collecting.Looked.TheVariants as looked
use Rattle.machine_sides.specs.declared.saving_back.SaveOutcome.{SaveOutcome}
use Rattle.machine_sides.specs.declared.saving_back.SaveOutcome.TheVariants as saved
use Rattle.machine_sides.specs.declared.purging.PurgeRefusal.{PurgeRefusal}
use Rattle.machine_sides.specs.declared.sweeping.Swept.{Swept}
use Rattle.machine_sides.specs.declared.sweeping.Swept.TheVariants as swept
use Rattle.machine_sides.specs.Loading.{Loads}
use Rattle.machine_sides.proofs.LookLaws.{looks_listed}
use Rattle.machine_sides.proofs.PurgeLaws.{neither, given_residents, unbarred}
use Rattle.machine_sides.specs.Purging.{PurgesAll, Purges}
use Rattle.machine_sides.specs.SavingBack.{EndsSave}
use Rattle.machine_sides.proofs.SavingLaws.{freed_ends, returned_ends}
use Rattle.machine_sides.specs.Sides.{PagerSideValue}
use Rattle.machine_sides.proofs.StageLaws.{stage_below}
use Rattle.machine_sides.proofs.SweepLaws.{read_alike, answers_together}
use Rattle.machine_sides.specs.Sweeping.{bit_of, bit_at, AnswersQuestion, Sweeps}
use Rattle.machine_sides.proofs.Sweeps.{victim_is_there, read_resident}
use Rattle.machine_sides.specs.Together.{Together, residents_in, key_of}
use Rattle.machine_sides.proofs.TogetherLaws.{alike_residents, residents_same}

-- a key's test passes that key alone
key_tested : (a b : Key) → is_key a b ≡ true → b ≡ a
key_tested a b h = by_parts (b.process == a.process) (b.vpn == a.vpn) refl refl h
  where
    by_parts : (p v : Bool) → (b.process == a.process) ≡ p → (b.vpn == a.vpn) ≡ v → p && v ≡ true → b ≡ a
    by_parts true true p v h = one_key b a (eqb-true b.process a.process p) (eqb-true b.vpn a.vpn v)
    by_parts true false p v h = cc
    by_parts false v p w h = cc

-- a key that another is not counts nothing
not_tested : (a b : Key) → (b ≡ a → ⊥) → is_key a b ≡ false
not_tested a b apart = by_test (is_key a b) refl
  where
    by_test : (t : Bool) → is_key a b ≡ t → is_key a b ≡ false
    by_test true is = absurd (apart (key_tested a b is))
    by_test false is = is

counts_none : (a b : Bool) → b ≡ false → cond {A = ℕ} (a && b) 1 0 ≡ 0
counts_none true b h = ap (λ t. cond {A = ℕ} t 1 0) h
counts_none false b h = refl

no_bit : (o : Option Bool) → is_gone (bit_of o) ≡ true → is_some o ≡ false
no_bit None h = refl
no_bit (Some true) h = cc
no_bit (Some false) h = cc

module _ {S : Type 0} where
  -- what the list gains or loses the process's resident pages do, and so they agree still
  pub listed_agree : (pager pager' : PagerState) (space space' : SpaceValue S) → space'.memory.process ≡ space.memory.process
      → ((test : Key → Bool) → residents pager'.list test + residents_in space test ≡ residents pager.list test + residents_in space' test) → AgreeStill None pager pager' space space'
  listed_agree pager pager' space space' same listed = record {
    process = same;
    agree = λ vpn out agreed. let e = listed (is_key (key_of space.memory.process vpn)) in omega (arith, e, agreed);
  }

  pub together_agree : (pager pager' : PagerState) (space space' : SpaceValue S) → Together pager pager' space space' → AgreeStill None pager pager' space space'
  together_agree pager pager' space space' together = listed_agree pager pager' space space' together.process together.listed

  pub same_agree : (pager pager' : PagerSideValue) (process process' : SpaceValue S) → pager' ≡ pager → process' ≡ process → AgreeStill None pager.pager pager'.pager process process'
  same_agree pager pager' process process' same_pager same =
      subst (λ (r : SpaceValue S). AgreeStill None pager.pager pager'.pager process r) (sym same)
      (subst (λ (s : PagerSideValue). AgreeStill None pager.pager s.pager process process) (sym same_pager) (record { process = refl; agree = λ vpn out agreed. agreed }))

  -- ---- pages that are not resident

  -- a page that is not resident is not counted
  pub absent_counts : (space : SpaceValue S) (key : Key) → is_resident_at space key.vpn ≡ false → residents_in space (is_key key) ≡ 0
  unfolding residents_in
  absent_counts space key absent =
      no_residents space.memory (λ vpn. is_key key (key_of space.memory.process vpn))
      (λ vpn small resident passes.
      let here : vpn ≡ key.vpn = ap (λ (k : Key). k.vpn) (key_tested key (key_of space.memory.process vpn) passes) in
      let there : is_resident_at space vpn ≡ true = ap is_resident_stage (stage_below space vpn small) ∙ resident in
      let same : is_resident_at space vpn ≡ false = ap (is_resident_at space) here ∙ absent in
      cc)

  -- a page that stays is counted as before
  pub left_counts : (old new : SpaceValue S) (vpn : ℕ) → new.memory.process ≡ old.memory.process → SamePage old.memory new.memory vpn
      → residents_in new (is_key (key_of old.memory.process vpn)) ≡ residents_in old (is_key (key_of old.memory.process vpn))
  unfolding residents_in
  left_counts old new vpn same page =
      ap (λ n. residents_among new.memory (λ number. is_key (key_of old.memory.process vpn) (key_of n number))) same
      ∙ same_residents old.memory new.memory (λ number. is_key (key_of old.memory.process vpn) (key_of old.memory.process number))
      (λ number small passes.
      let here : number ≡ vpn = ap (λ (k : Key). k.vpn) (key_tested (key_of old.memory.process vpn) (key_of old.memory.process number) passes) in
      subst (SamePage old.memory new.memory) (sym here) page)

  -- ---- an admission

  pub admitted_agree : (key : Key) (old new : PagerSideValue) (space : SpaceValue S) (admission : AdmissionValue) → Admits key old new space admission → AgreeStill (Some key) old.pager new.pager space space
  unfolding admitted_with
  admitted_agree key old new space admission admits = record {
    process = refl;
    agree = λ vpn out agreed. at (key_of space.memory.process vpn) (λ e. out (ap (λ (q : Key). Some q) e)) agreed;
  }
    where
      at : (k : Key) → (key ≡ k → ⊥) → Agree old.pager space k → Agree new.pager space k
      at k apart agreed =
          let now : residents new.pager.list (is_key k) ≡ residents (admitted key old.pager.list).0 (is_key k) = ap (λ (p : PagerSideValue). residents p.pager.list (is_key k)) admits.pager_is in
          let more = admitted_residents (is_key k) key old.pager.list in
          let none = counts_none (is_ok (admitted key old.pager.list).1) (is_key k key) (not_tested k key apart) in
          omega (arith, now, more, none, agreed)

  module _ (key : Key) (pager pager' : PagerState) (space : SpaceValue S) (list : pager'.list ≡ taken_back (is_resident_at space key.vpn) key pager.list) where
    taken : (b : Bool) → is_resident_at space key.vpn ≡ b → (k : Key) → Agree pager space k → Agree pager' space k
    taken true is k agreed = ap (λ l. residents l (is_key k)) (list ∙ ap (λ b. taken_back b key pager.list) is) ∙ agreed
    taken false is k agreed =
        let now : residents pager'.list (is_key k) ≡ residents (withdrawn key pager.list).0 (is_key k) = ap (λ l. residents l (is_key k)) (list ∙ ap (λ b. taken_back b key pager.list) is) in
        let fewer = withdrawn_residents (is_key k) key pager.list in
        by_key (is_key k key) refl now fewer
      where
        by_key : (t : Bool) → is_key k key ≡ t → residents pager'.list (is_key k) ≡ residents (withdrawn key pager.list).0 (is_key k)
            → residents (withdrawn key pager.list).0 (is_key k) + cond (has_resident key pager.list && is_key k key) 1 0 ≡ residents pager.list (is_key k) → residents pager'.list (is_key k) ≡ residents_in space (is_key k)
        by_key true same now fewer =
            let none : residents_in space (is_key k) ≡ 0 = ap (λ q. residents_in space (is_key q)) (sym (key_tested k key same)) ∙ absent_counts space key is in
            omega (arith, none, now, fewer, agreed)
        by_key false other now fewer =
            let e : cond {A = ℕ} (has_resident key pager.list && is_key k key) 1 0 ≡ 0 = counts_none (has_resident key pager.list) (is_key k key) other in
            omega (arith, now, fewer, agreed, e)

    pub undone_agree : AgreeStill None pager pager' space space
    undone_agree = record { process = refl; agree = λ vpn out agreed. taken (is_resident_at space key.vpn) refl (key_of space.memory.process vpn) agreed }

    -- and no more is listed of a page that did not come in
    pub undone_settles : Lawful pager.list → is_resident_at space key.vpn ≡ false → Agree pager' space key
    undone_settles lawful absent =
        let now : residents pager'.list (is_key key) ≡ residents (withdrawn key pager.list).0 (is_key key) = ap (λ l. residents l (is_key key)) (list ∙ ap (λ b. taken_back b key pager.list) absent) in
        let fewer = withdrawn_residents (is_key key) key pager.list in
        let once = key_residents key pager.list lawful in
        let none = absent_counts space key absent in
        let all : cond {A = ℕ} (has_resident key pager.list && is_key key key) 1 0 ≡ cond (has_resident key pager.list) 1 0 = both (has_resident key pager.list) (is_key key key) (is_key_self key) in
        omega (arith, now, fewer, once, none, all)
      where
        both : (a b : Bool) → b ≡ true → cond {A = ℕ} (a && b) 1 0 ≡ cond a 1 0
        both true b h = ap (λ t. cond {A = ℕ} t 1 0) h
        both false b h = refl

  -- ---- a question

  gone_absent : (space : SpaceValue S) (vpn : ℕ) → is_gone (bit_at space vpn) ≡ true → is_resident_at space vpn ≡ false
  gone_absent space vpn h =
      elim (nat_lt vpn (2 ^ 20)) as (λ t. is_gone (cond t (bit_of (accessed_in space.memory vpn)) Gone) ≡ true → is_resident_stage (cond t (stage_in space.memory vpn) None) ≡ false) [
        | true ↦ λ g. sym (accessed_stage space.memory vpn) ∙ no_bit (accessed_in space.memory vpn) g
        | false ↦ λ g. refl
      ] h

  module _ (pager pager' : PagerSideValue) (process process' : SpaceValue S) (key : Key) (bit : Bit) (lawful : Lawful pager.pager.list) where
    gone_agrees : is_gone bit ≡ true → AnswersQuestion pager pager' process process' key bit GoOn → AgreeStill None pager.pager pager'.pager process process'
    unfolding pager_answered
    gone_agrees gone answers = record { process = heeded_same ∙ alike.process; agree = λ vpn out agreed. at (key_of process.memory.process vpn) agreed }
      where
        alike : CountsAlike process.memory answers.between.memory
        alike = read_alike bit key.vpn process answers.between answers.read

        heeded_same : process'.memory.process ≡ answers.between.memory.process
        heeded_same = ap (λ (s : SpaceValue S). s.memory.process) answers.heeded

        kept : (k : Key) → residents_in process' (is_key k) ≡ residents_in process (is_key k)
        kept k = ap (λ (s : SpaceValue S). residents_in s (is_key k)) answers.heeded ∙ alike_residents process answers.between alike (is_key k)

        at : (k : Key) → Agree pager.pager process k → Agree pager'.pager process' k
        at k agreed =
            let now : residents pager'.pager.list (is_key k) ≡ residents (answered bit pager.pager.list).0 (is_key k) = ap (λ (p : PagerSideValue). residents p.pager.list (is_key k)) answers.pager_is in
            let fewer = answered_residents (is_key k) bit pager.pager.list key lawful answers.question in
            by_key (is_key k key) refl now fewer
          where
            by_key : (t : Bool) → is_key k key ≡ t → residents pager'.pager.list (is_key k) ≡ residents (answered bit pager.pager.list).0 (is_key k)
                → residents (answered bit pager.pager.list).0 (is_key k) + cond (takes bit (answered bit pager.pager.list).1 && is_key k key) 1 0 ≡ residents pager.pager.list (is_key k)
                → residents pager'.pager.list (is_key k) ≡ residents_in process' (is_key k)
            by_key true is now fewer =
                let this : k ≡ key = sym (key_tested k key is) in
                let none : residents_in process (is_key k) ≡ 0 = ap (λ q. residents_in process (is_key q)) this ∙ absent_counts process key (gone_absent process key.vpn (ap is_gone answers.bit_is ∙ gone)) in
                let one : residents pager.pager.list (is_key k) ≡ 1 = ap (λ q. residents pager.pager.list (is_key q)) this ∙ asked_once key pager.pager.list lawful answers.question in
                absurd (omega (arith, none, one, agreed))
            by_key false other now fewer =
                let e = counts_none (takes bit (answered bit pager.pager.list).1) (is_key k key) other in
                let same_pages = kept k in
                omega (arith, now, fewer, agreed, e, same_pages)

    pub answers_agree : (verdict : Verdict) → key.process ≡ process.memory.process → AnswersQuestion pager pager' process process' key bit verdict → AgreeStill None pager.pager pager'.pager process process'
    answers_agree verdict of_process answers = by_bit (is_gone bit) refl verdict answers
      where
        by_bit : (t : Bool) → is_gone bit ≡ t → (verdict : Verdict) → AnswersQuestion pager pager' process process' key bit verdict → AgreeStill None pager.pager pager'.pager process process'
        by_bit false there verdict answers =
            together_agree pager.pager pager'.pager process process'
            (answers_together pager pager' process process' key bit verdict lawful (read_resident process key.vpn (ap is_gone answers.bit_is ∙ there)).0 of_process there answers)
        by_bit true gone GoOn answers = gone_agrees gone answers
        by_bit true gone (Victim k) answers = let there = victim_is_there bit pager.pager.list k answers.told in cc

  pub sweep_agrees : (pager pager' : PagerSideValue) (process process' : SpaceValue S) (swept : Swept) → Lawful pager.pager.list → AsksOf pager.pager process → Sweeps pager pager' process process' swept → AgreeStill None pager.pager pager'.pager process process'
  sweep_agrees pager pager' process process' swept.NothingResident lawful of_process sweeps = same_agree pager pager' process process' sweeps.1.0 sweeps.1.1
  sweep_agrees pager pager' process process' (swept.Asked key bit) lawful of_process sweeps = answers_agree pager pager' process process' key bit lawful GoOn (of_process key sweeps.question) sweeps
  sweep_agrees pager pager' process process' (swept.Victim key) lawful of_process sweeps = answers_agree pager pager' process process' key sweeps.0 lawful (Victim key) (of_process key sweeps.1.question) sweeps.1

  -- ---- a look at a page, and a save that comes back

  module _ (vpn : ℕ) (pager pager' : PagerSideValue) (old new : SpaceValue S) (slots slots' : PoolValue S) where
    looked_process : (result : Looked S) → Looks vpn pager pager' old new slots slots' result → new.memory.process ≡ old.memory.process
    looked_process looked.NotLeaving how = ap (λ (q : SpaceValue S). q.memory.process) how.1.process_stays
    looked_process looked.NotYet how = ap (λ (q : SpaceValue S). q.memory.process) how.stays.process_stays
    looked_process looked.Freed how = dropped_process vpn how.frame old new how.drops
    looked_process (looked.Dirty job) how = copied_process vpn job old new slots slots' how.saving
    looked_process looked.NoSlot how = how.returns.mapped.moves.process

    pub looks_agree : (result : Looked S) → Looks vpn pager pager' old new slots slots' result → AgreeStill None pager.pager pager'.pager old new
    looks_agree result how = listed_agree pager.pager pager'.pager old new (looked_process result how) (looks_listed vpn pager pager' old new slots slots' result how)

  module _ (job : SavedValue S) (pager pager' : PagerSideValue) (process process' : SpaceValue S) where
    pub saved_agrees : (outcome : SaveOutcome S) → EndsSave job pager pager' process process' outcome → AgreeStill None pager.pager pager'.pager process process'
    saved_agrees saved.Freed how = together_agree pager.pager pager'.pager process process' (freed_ends job pager pager' process process' how).together
    saved_agrees (saved.WrongPage back) how = same_agree pager pager' process process' how.pager_stays how.process_stays
    saved_agrees (saved.ResidentAgain failure) how = together_agree pager.pager pager'.pager process process' (returned_ends job pager pager' process process' failure how).together

  -- ---- a purge

  pub purged_agree : (pager pager' : PagerSideValue) (process process' : SpaceValue S) (pool pool' : PoolValue S) → PurgesAll pager pager' process process' pool pool' → (vpn : ℕ)
      → Agree pager'.pager process' (key_of process.memory.process vpn)
  purged_agree pager pager' process process' pool pool' all vpn =
      ap (λ (p : PagerSideValue). residents p.pager.list (is_key (key_of process.memory.process vpn))) all.pager_is
      ∙ purged_residents (is_key (key_of process.memory.process vpn)) process.memory.process pager.pager.list
      ∙ neither (λ q. q.process == process.memory.process) (λ q. q.vpn == vpn) pager.pager.list
      ∙ sym (given_residents process process' all.moves (unbarred process all.allowed).1.0 (is_key (key_of process.memory.process vpn)))

  pub purge_agrees : (pager pager' : PagerSideValue) (process process' : SpaceValue S) (pool pool' : PoolValue S) (result : Result (Unit {0}) PurgeRefusal)
      → Purges pager pager' process process' pool pool' result → AgreeStill None pager.pager pager'.pager process process'
  purge_agrees pager pager' process process' pool pool' (Ok done) how = record { process = how.moves.process; agree = λ vpn out agreed. purged_agree pager pager' process process' pool pool' how vpn }
  purge_agrees pager pager' process process' pool pool' (Err reason) how = same_agree pager pager' process process' how.pager_stays how.process_stays

  -- ---- a load

  module _ (held : S → List ℕ) (honest : Type 0) (admission : AdmissionValue) (old new : SpaceValue S) where
    loaded_agree : (pager : PagerState) → Loads held honest admission old new → AgreeStill (Some (key_of old.memory.process admission.key.vpn)) pager pager old new
    loaded_agree pager loads = record {
      process = loads.moves.process;
      agree = λ vpn out agreed. agreed ∙ sym (left_counts old new vpn loads.moves.process ((come held honest admission.frame admission.key.vpn old.memory new.memory loads.moves).keeps.others vpn (λ e. out (ap (λ n. Some (key_of old.memory.process n)) (sym e)))));
    }

    pub loads_agree : {A E : Type 0} (result : Result A E) → OnOk result (Loads held honest admission old new) → OnOk result ((pager : PagerState) → AgreeStill (Some (key_of old.memory.process admission.key.vpn)) pager pager old new)
    loads_agree (Ok done) loads = λ pager. loaded_agree pager loads
    loads_agree (Err fault) loads = loads
