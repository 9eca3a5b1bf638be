-- No instruction stores to a page between the copy that is taken of it and the copy's return as one that backs the page.
use Rattle.std.proofs.Common.{◌≡◌, ℕ, zero, suc, ◌+◌, ◌<◌, ◌^◌, true, List, [], ◌∷◌, Option, Some, None, slice_get, inl, inr, refl, sym, ap, ◌∙◌, arith, subst}
use Rattle.std.specs.Prelude.{All, Contains, slice_set, replicate, length, if◌then◌else◌}
use Rattle.std.proofs.lemmas.Bool.Decides.{eqb_tells}
use Rattle.std.proofs.lemmas.List.{length-replicate}
use Rattle.std.proofs.lemmas.List.Elements.{All-contains, All-head, All-tail}
use Rattle.clock_policy.proofs.AdmitLaws.{one_key}
use Rattle.clock_policy.specs.declared.key.Key.{Key}
use Rattle.page_store.specs.declared.answer.Cleaned.{Cleaned}
use Rattle.page_store.specs.declared.answer.Cleaned.TheVariants as end
use Rattle.paged_memory.proofs.cleaning_laws.CleanBarLaws.{goes_keeps}
use Rattle.paged_memory.proofs.cleaning_laws.StoresToldLaws.{told_in, not_backing}
use Rattle.paged_memory.proofs.move_laws.ComeLaws.{come, refused_alike}
use Rattle.paged_memory.specs.Coheres.{HoldsIn}
use Rattle.paged_memory.specs.access.Missing.{TakesSince}
use Rattle.paged_memory.specs.access.Using.{cache_in}
use Rattle.paged_memory.specs.cleaning.Copies.{CopyStands, LeavesCopies}
use Rattle.space_core.specs.Next.{next_stores, answered}
use Rattle.space_core.specs.Slicing.{shown_process}
use Rattle.space_core.specs.StandsFor.{SpaceValue}
use Rattle.space_core.specs.StepByStep.{SlicesOne, SlicesEach, StepsOn, StepsLast, SliceEnds}
use Rattle.space_core.specs.declared.progress.SliceStop.{SliceStop}
use Rattle.space_core.specs.declared.progress.SliceStop.TheVariants as stop
use Rattle.flat_machine.specs.Process.{Process, flat_run}
use Rattle.machine_sides.proofs.CollectLaws.{dropped_rest, copied_now}
use Rattle.machine_sides.proofs.CleaningLaws.{starts_alike}
use Rattle.machine_sides.proofs.PurgeLaws.{given_copies}
use Rattle.machine_sides.proofs.ReturnLaws.{returned_rest}
use Rattle.machine_sides.proofs.SavingLaws.{freed_ends, returned_ends}
use Rattle.machine_sides.proofs.SweepLaws.{answers_rest}
use Rattle.machine_sides.specs.Cleaning.{TakesCopyBack}
use Rattle.machine_core.proofs.Cores.{step_alike, notice_alike, kill_alike}
use Rattle.machine_core.proofs.EventOrderLaws.{one_ran}
use Rattle.machine_core.proofs.Finding.{asked_process}
use Rattle.machine_core.proofs.PageInReasons.{unbarred}
use Rattle.machine_core.proofs.TotalLaws.{get_set_same, get_set_other}
use Rattle.machine_core.specs.Applying.{Applies, Runs, ServesEvent}
use Rattle.machine_core.specs.CleaningEvents.{CopiesOnce, CopiesTo, stored, not_yet, no_slot, copied, CleanedOnce, RepliesBack}
use Rattle.machine_core.specs.Coherent.{EachCoherent}
use Rattle.machine_core.specs.CollectEvent.{CollectsOnce, CollectsTo}
use Rattle.machine_core.specs.CollectEvent as looked
use Rattle.machine_core.specs.Faithful.{IsFaithful}
use Rattle.machine_core.specs.Headline.{has_run}
use Rattle.machine_core.specs.Machine.{CoreValue, IsMachine}
use Rattle.machine_core.specs.MachineRun.{RefusesEvent, StepsHart, SweepsOnce, step_reply}
use Rattle.machine_core.specs.PagingIn.{PagesInOnce}
use Rattle.machine_core.specs.SavingOut.{SavesOnce}
use Rattle.machine_core.specs.WritingAhead.{LeadsMeanwhile, StoresTo, StoresBetween}
use Rattle.machine_core.specs.declared.error.EventRefusal.{EventRefusal}
use Rattle.machine_core.specs.declared.event.Event.{Event}
use Rattle.machine_core.specs.declared.event.Event.TheVariants as event
use Rattle.machine_core.specs.declared.event.Reply.{Reply}
use Rattle.machine_core.specs.declared.event.Reply.TheVariants as reply

module _ {S : Type 0} where
  -- ---- a slice of one instruction

  pub slice_one : (held : S → List ℕ) (honest : Type 0) (hart ran : ℕ) (why : SliceStop) (old new : SpaceValue S) → SlicesEach held honest hart 1 ran why old new → SlicesOne held honest hart ran why old new
  unfolding StepsOn
  slice_one held honest hart ran why old new slices = by_last slices.on slices.last slices.each.between slices.each.on slices.each.at_last slices.ends
    where
      by_last : (on : ℕ) (last : Option (ℕ × SliceStop)) (between : SpaceValue S) → StepsOn held honest hart on old between → StepsLast held honest hart last between new → SliceEnds held honest hart 1 on last ran why → SlicesOne held honest hart ran why old new
      by_last zero None between steps stays ends = absurd (let e = ends.0 in omega (arith, e))
      by_last (suc zero) None between steps stays ends =
          let from : SlicesOne held honest hart 1 stop.Budget old between = subst (λ (s : SpaceValue S). SlicesOne held honest hart 1 stop.Budget s between) steps.1.0 steps.1.1 in
          let to : SlicesOne held honest hart 1 stop.Budget old new = subst (λ (s : SpaceValue S). SlicesOne held honest hart 1 stop.Budget old s) (sym stays) from in
          let same : 1 ≡ ran = let e = ends.1 in omega (arith, e) in
          subst (λ w. SlicesOne held honest hart ran w old new) (sym ends.2) (subst (λ n. SlicesOne held honest hart n stop.Budget old new) same to)
      by_last (suc (suc n)) None between steps stays ends = absurd (let e = ends.0 in omega (arith, e))
      by_last zero (Some last) between steps one ends =
          let from : SlicesOne held honest hart last.0 last.1 old new = subst (λ (s : SpaceValue S). SlicesOne held honest hart last.0 last.1 s new) steps one in
          let same : last.0 ≡ ran = let e = ends.1 in omega (arith, e) in
          subst (λ w. SlicesOne held honest hart ran w old new) (sym ends.2) (subst (λ n. SlicesOne held honest hart n last.1 old new) same from)
      by_last (suc n) (Some last) between steps one ends = absurd (let e = ends.0 in omega (arith, e))

-- an instruction that ran was answered
ran_answered : (why : SliceStop) (ran : ℕ) → has_run (step_reply why) ≡ true → ran ≡ 1 → 0 < answered why ran
ran_answered stop.Budget ran is one = omega (arith, one)
ran_answered (stop.Absent page) ran is one = cc
ran_answered stop.Yield ran is one = omega (arith, one)
ran_answered stop.HartDone ran is one = omega (arith, one)
ran_answered stop.Ended ran is one = omega (arith, one)
ran_answered stop.NoHart ran is one = cc
ran_answered stop.ScheduleFull ran is one = cc
ran_answered stop.NoMemory ran is one = cc

module _ {S : Type 0} (held : S → List ℕ) (honest : Type 0) (failures : S → ℕ) (key : Key) (small : key.vpn < 2 ^ 20) (bytes : List ℕ) where
  -- ---- a copy that stands in the machine

  pub record Stands (core : CoreValue S) : Type 0 where
    pub process : SpaceValue S
    pub found : slice_get core.processes key.process ≡ Some process
    pub stands : CopyStands key.vpn bytes process.memory

  one_keeps : (old new : CoreValue S) (p : ℕ) (q q' : SpaceValue S) → slice_get old.processes p ≡ Some q → new.processes ≡ slice_set old.processes p q'
      → (p ≡ key.process → CopyStands key.vpn bytes q.memory → CopyStands key.vpn bytes q'.memory) → Stands old → Stands new
  one_keeps old new p q q' found is keeps out =
      elim (eqb_tells key.process p) [
        | inl same ↦
            let there : out.process ≡ q = let a = out.found in let b = found in let c = same.1 in cc in
            record {
              process = q';
              found = ap (slice_get new.processes) same.1 ∙ ap (λ l. slice_get l p) is ∙ get_set_same old.processes p q q' found;
              stands = keeps (sym same.1) (subst (λ (r : SpaceValue S). CopyStands key.vpn bytes r.memory) there out.stands);
            }
        | inr apart ↦ record {
          process = out.process;
          found = ap (λ l. slice_get l key.process) is ∙ get_set_other old.processes p key.process q' apart.1 ∙ out.found;
          stands = out.stands;
        }
      ]

  leaves_keep : (old new : CoreValue S) (p : ℕ) (q q' : SpaceValue S) → slice_get old.processes p ≡ Some q → new.processes ≡ slice_set old.processes p q' → LeavesCopies q.memory q'.memory → Stands old → Stands new
  leaves_keep old new p q q' found is leaves = one_keeps old new p q q' found is (λ _ stands. leaves.stand key.vpn bytes small stands)

  same_keeps : (old new : CoreValue S) (p : ℕ) (q q' : SpaceValue S) → slice_get old.processes p ≡ Some q → new.processes ≡ slice_set old.processes p q' → q' ≡ q → Stands old → Stands new
  same_keeps old new p q q' found is same = one_keeps old new p q q' found is (λ _ stands. subst (λ (r : SpaceValue S). CopyStands key.vpn bytes r.memory) (sym same) stands)

  refused_keeps : (reason : Option EventRefusal) (old new : CoreValue S) (answer : Reply) → RefusesEvent reason old new answer → Stands old → Stands new
  refused_keeps reason old new answer refuses out = subst Stands (sym refuses.stays) out

  swept_keeps : (old new : CoreValue S) (answer : Reply) → IsMachine old → SweepsOnce old new answer → Stands old → Stands new
  swept_keeps old new answer machine sweeps =
      let there = asked_process old sweeps.key machine sweeps.answers.question in
      leaves_keep old new sweeps.key.process sweeps.process sweeps.process' sweeps.found sweeps.processes
      (answers_rest old.pager new.pager sweeps.process sweeps.process' sweeps.key sweeps.bit sweeps.verdict there.resident.small sweeps.answers).copies

  collected_keeps : (k : Key) (old new : CoreValue S) (answer : Reply) → CollectsOnce held honest k old new answer → Stands old → Stands new
  collected_keeps k old new answer once = by_end once.comes_to
    where
      leaves : LeavesCopies once.process.memory once.process'.memory → Stands old → Stands new
      leaves = leaves_keep old new k.process once.process once.process' once.found once.processes

      same : once.process' ≡ once.process → Stands old → Stands new
      same = same_keeps old new k.process once.process once.process' once.found once.processes

      by_end : CollectsTo k.vpn old new once.process once.process' answer → Stands old → Stands new
      by_end (looked.not_yet how jobs told) = same how.stays.process_stays
      by_end (looked.freed how jobs told) = leaves (dropped_rest k.vpn how.frame once.process once.process' how.drops).copies
      by_end (looked.dirty job how jobs told) = leaves (copied_now k.vpn job once.process once.process' old.slots new.slots how.saving).copies
      by_end (looked.no_slot how jobs told) = leaves (returned_rest k.vpn once.process once.process' how.returns.mapped).copies

  saved_keeps : (k : Key) (old new : CoreValue S) (answer : Reply) → SavesOnce held honest failures k old new answer → Stands old → Stands new
  saved_keeps k old new answer once =
      leaves_keep old new k.process once.process once.process' once.found once.processes (elim once.ends [
        | inl freed ↦ (freed_ends once.saved old.pager new.pager once.process once.process' freed.0).copies
        | inr back ↦ (returned_ends once.saved old.pager new.pager once.process once.process' _ back.0).copies
      ])

  paged_in_keeps : (k : Key) (old new : CoreValue S) (answer : Reply) → PagesInOnce held honest failures k old new answer → Stands old → Stands new
  paged_in_keeps k old new answer once =
      elim once.how [
        | inl comes ↦
            leaves_keep old new k.process once.process once.process' once.found once.processes
            (come held honest comes.admission.frame comes.admission.key.vpn once.process.memory once.process'.memory comes.loads.moves).copies
        | inr not ↦ elim not [
          | inl goes ↦
              let there = (unbarred k old.pager.pager once.process goes.admits.allowed).there.small in
              leaves_keep old new k.process once.process once.process' once.found once.processes
              (refused_alike held honest once.process.memory once.process'.memory goes.rest.process goes.unmapped k.vpn there failures goes.admission.frame goes.back goes.fault goes.why).copies
          | inr unlisted ↦ same_keeps old new k.process once.process once.process' once.found once.processes unlisted.process_is
        ]
      ]

  copied_keeps : (k : Key) (old new : CoreValue S) (answer : Reply) → CopiesOnce held k old new answer → Stands old → Stands new
  copied_keeps k old new answer once = by_end once.comes_to
    where
      leaves : LeavesCopies once.process.memory once.process'.memory → Stands old → Stands new
      leaves = leaves_keep old new k.process once.process once.process' once.found once.processes

      by_end : CopiesTo k.vpn old new once.process once.process' answer → Stands old → Stands new
      by_end (stored how copies told) = leaves how.lends.copies
      by_end (not_yet how copies told) = leaves how.lends.copies
      by_end (no_slot how copies told) = leaves how.lends.copies
      by_end (copied job how copies told) =
          one_keeps old new k.process once.process once.process' once.found once.processes
          (λ _ stands. goes_keeps once.process.memory once.process'.memory k.vpn job.copy how.lends.copies key.vpn bytes small stands)

  cleaned_keeps : (k : Key) (old new : CoreValue S) (answer : Reply) → (event.Cleaned k ≡ event.Cleaned key → ⊥) → CleanedOnce held honest failures k old new answer → Stands old → Stands new
  cleaned_keeps k old new answer apart once =
      one_keeps old new k.process once.process once.process' once.found once.processes (by_end once.came once.ends once.told)
    where
      vpn_is : once.job.vpn ≡ k.vpn
      vpn_is = once.makes.page ∙ once.makes.job_page

      other : k.process ≡ key.process → key.vpn ≡ once.job.vpn → ⊥
      other here same = apart (ap (λ (x : Key). event.Cleaned x) (one_key k key here (sym (same ∙ vpn_is))))

      by_end : (came : Cleaned S) → TakesCopyBack once.job came once.process once.process' → RepliesBack came answer → k.process ≡ key.process → CopyStands key.vpn bytes once.process.memory → CopyStands key.vpn bytes once.process'.memory
      by_end (end.WrongPage back) ends told here stands = absurd told
      by_end end.Stored ends told here stands = ends.copies.others.stand key.vpn bytes small (other here) stands
      by_end end.Device ends told here stands = ends.copies.others.stand key.vpn bytes small (other here) stands
      by_end end.Clean ends told here stands = ends.copies.others.stand key.vpn bytes small (other here) stands

  -- a copy that stands stands after each event but its return
  event_keeps : (happened : Event) (old new : CoreValue S) (answer : Reply) → IsMachine old → (happened ≡ event.Cleaned key → ⊥) → ServesEvent held honest failures happened old new answer → Stands old → Stands new
  event_keeps (event.Step p hart) old new answer machine apart served =
      elim served [
        | inl refused ↦ refused_keeps _ old new answer refused
        | inr steps ↦
            let one = steps.one in
            leaves_keep old new p one.process one.process' one.found one.is (step_alike held honest hart steps.why one.process one.process' one.how).copies
      ]
  event_keeps (event.Notice p hart) old new answer machine apart served =
      elim served [
        | inl refused ↦ refused_keeps _ old new answer refused
        | inr notices ↦ let one = notices.one in leaves_keep old new p one.process one.process' one.found one.is (notice_alike hart one.process one.process' one.how).copies
      ]
  event_keeps event.Sweep old new answer machine apart served = elim served [ inl refused ↦ refused_keeps _ old new answer refused | inr once ↦ swept_keeps old new answer machine once ]
  event_keeps (event.Collect k) old new answer machine apart served = elim served [ inl refused ↦ refused_keeps _ old new answer refused | inr once ↦ collected_keeps k old new answer once ]
  event_keeps (event.Saved k) old new answer machine apart served = elim served [ inl refused ↦ refused_keeps _ old new answer refused | inr once ↦ saved_keeps k old new answer once ]
  event_keeps (event.PageIn k) old new answer machine apart served = elim served [ inl refused ↦ refused_keeps _ old new answer refused | inr once ↦ paged_in_keeps k old new answer once ]
  event_keeps (event.Kill p cause) old new answer machine apart served =
      elim served [
        | inl refused ↦ refused_keeps _ old new answer refused
        | inr kills ↦ let one = kills.one in leaves_keep old new p one.process one.process' one.found one.is (kill_alike cause one.process one.process' one.how).copies
      ]
  event_keeps (event.Purge p) old new answer machine apart served =
      elim served [
        | inl refused ↦ refused_keeps _ old new answer refused
        | inr once ↦ leaves_keep old new p once.process once.process' once.found once.processes (given_copies once.process once.process' once.purges.moves)
      ]
  event_keeps (event.Clean k) old new answer machine apart served =
      elim served [
        | inl refused ↦ refused_keeps _ old new answer refused
        | inr once ↦ leaves_keep old new k.process once.process once.process' once.found once.processes (starts_alike k.vpn once.process once.process' once.starts).copies
      ]
  event_keeps (event.Copy k) old new answer machine apart served = elim served [ inl refused ↦ refused_keeps _ old new answer refused | inr once ↦ copied_keeps k old new answer once ]
  event_keeps (event.Cleaned k) old new answer machine apart served = elim served [ inl refused ↦ refused_keeps _ old new answer refused | inr once ↦ cleaned_keeps k old new answer apart once ]

  -- and so it does after a run of which no event is its return
  run_keeps : (events : List Event) (replies : List Reply) (old new : CoreValue S) → IsFaithful held honest old → All (λ happened. happened ≡ event.Cleaned key → ⊥) events
      → Runs held honest failures events replies old new → Stands old → Stands new
  unfolding Runs
  run_keeps [] [] old new faithful apart runs out = subst Stands (sym runs) out
  run_keeps [] (answer ∷ replies) old new faithful apart runs out = absurd runs
  run_keeps (happened ∷ events) [] old new faithful apart runs out = absurd runs
  run_keeps (happened ∷ events) (answer ∷ replies) old new faithful apart runs out =
      run_keeps events replies runs.0 new runs.1.0.faithful (All-tail (λ happened. happened ≡ event.Cleaned key → ⊥) happened events apart) runs.1.1
      (event_keeps happened old runs.0 answer faithful.machine (All-head (λ happened. happened ≡ event.Cleaned key → ⊥) happened events apart) runs.1.0.served out)

  pub leads_keep : (old new : CoreValue S) → IsFaithful held honest old → LeadsMeanwhile held honest failures key old new → Stands old → Stands new
  leads_keep old new faithful leads = run_keeps leads.events leads.replies old new faithful leads.none_back leads.runs

no_harts : (process : Process) → flat_run [] process ≡ Some process
unfolding flat_run
no_harts process = refl

module _ {S : Type 0} (held : S → List ℕ) (honest : Type 0) where
  holds_at : (core : CoreValue S) (p : ℕ) (q : SpaceValue S) → slice_get core.processes p ≡ Some q → EachCoherent held honest core.processes → HoldsIn held honest q.memory
  unfolding EachCoherent
  holds_at core p q found each = (each p q found).memory.agree

  -- where a step ran, one instruction did
  step_ran : (p hart : ℕ) (old new : CoreValue S) (answer : Reply) (steps : StepsHart held honest p hart old new answer) → has_run (step_reply steps.why) ≡ true → steps.one.how.ran ≡ 1
  step_ran p hart old new answer steps ran =
      let lengths : length (replicate steps.one.how.ran hart) ≡ length (if has_run (step_reply steps.why) then hart ∷ [] else []) = ap length (one_ran held honest p hart old new answer steps) in
      sym (length-replicate steps.one.how.ran hart) ∙ lengths ∙ ap (λ b. length (if b then hart ∷ [] else [])) ran

module _ {S : Type 0} (held : S → List ℕ) (honest : Type 0) (failures : S → ℕ) where
  runs_faithful : (events : List Event) (replies : List Reply) (old new : CoreValue S) → IsFaithful held honest old → Runs held honest failures events replies old new → IsFaithful held honest new
  unfolding Runs
  runs_faithful [] [] old new faithful runs = subst (IsFaithful held honest) (sym runs) faithful
  runs_faithful [] (answer ∷ replies) old new faithful runs = absurd runs
  runs_faithful (happened ∷ events) [] old new faithful runs = absurd runs
  runs_faithful (happened ∷ events) (answer ∷ replies) old new faithful runs = runs_faithful events replies runs.0 new runs.1.0.faithful runs.1.1

  module _ (key : Key) where
    -- the copy that goes out stands
    pub record GoneOut (core : CoreValue S) : Type 0 where
      pub small : key.vpn < 2 ^ 20
      pub bytes : List ℕ
      pub stands : Stands held honest failures key small bytes core

    gone_out : (before after : CoreValue S) → Applies held honest failures (event.Copy key) before after reply.Copied → GoneOut after
    gone_out before after applies =
        elim applies.served [
          | inl refuses ↦ absurd (let e : reply.Copied ≡ reply.Refused refuses.refusal = refuses.reply_is in cc)
          | inr once ↦ by_end once once.comes_to
        ]
      where
        by_end : (once : CopiesOnce held key before after reply.Copied) → CopiesTo key.vpn before after once.process once.process' reply.Copied → GoneOut after
        by_end once (stored how copies told) = absurd (let e : reply.Copied ≡ reply.Stored = told in cc)
        by_end once (not_yet how copies told) = absurd (let e : reply.Copied ≡ reply.NotYet = told in cc)
        by_end once (no_slot how copies told) = absurd (let e : reply.Copied ≡ reply.NoSlot = told in cc)
        by_end once (copied job how copies told) = record {
          small = how.lends.small;
          bytes = job.copy;
          stands = record {
            process = once.process';
            found = ap (λ l. slice_get l key.process) once.processes ∙ get_set_same before.processes key.process once.process once.process' once.found;
            stands = how.lends.copies.stands;
          };
        }

    -- a store while it is out is told of
    stored_told : (small : key.vpn < 2 ^ 20) (bytes other : List ℕ) (old new : CoreValue S) → StoresTo held honest failures key old new → Stands held honest failures key small bytes old → Stands held honest failures key small other new
    stored_told small bytes other old new stores out =
        elim stores.steps.served [
          | inl refuses ↦ absurd (let e : has_run (reply.Refused refuses.refusal) ≡ true = ap has_run (sym refuses.reply_is) ∙ stores.ran in cc)
          | inr steps ↦ by_step steps
        ]
      where
        by_step : StepsHart held honest key.process stores.hart old new stores.answer → Stands held honest failures key small other new
        by_step steps =
            let one = steps.one in
            let slice = one.how.slice in
            let here : one.process ≡ stores.process = let a = one.found in let b = stores.found in cc in
            let out_here : out.process ≡ one.process = let a = one.found in let b = out.found in cc in
            let single = slice_one held honest stores.hart one.how.ran steps.why one.process one.process' slice.each in
            let ran : has_run (step_reply steps.why) ≡ true = ap has_run (sym steps.reply_is) ∙ stores.ran in
            let some = ran_answered steps.why one.how.ran ran (step_ran held honest key.process stores.hart old new stores.answer steps ran) in
            let takes : TakesSince one.process'.memory (cache_in one.process.memory stores.hart) key.vpn =
            All-contains (TakesSince one.process'.memory (cache_in one.process.memory stores.hart)) (next_stores stores.hart (shown_process held one.process)) key.vpn
            (single.takes 0 (shown_process held one.process) some (no_harts (shown_process held one.process)))
            (subst (λ (q : SpaceValue S). Contains (next_stores stores.hart (shown_process held q)) key.vpn) (sym here) stores.stores) in
            let was : CopyStands key.vpn bytes one.process.memory = subst (λ (q : SpaceValue S). CopyStands key.vpn bytes q.memory) out_here out.stands in
            let still : CopyStands key.vpn bytes one.process'.memory = slice.kept.copies key.vpn bytes small was in
            record {
              process = one.process';
              found = ap (λ l. slice_get l key.process) one.is ∙ get_set_same old.processes key.process one.process one.process' one.found;
              stands = told_in bytes other one.process'.memory key.vpn still takes.0;
            }

    -- so the copy does not back the page
    not_back : (small : key.vpn < 2 ^ 20) (returning after : CoreValue S) → IsFaithful held honest returning → ((bytes : List ℕ) → Stands held honest failures key small bytes returning)
        → Applies held honest failures (event.Cleaned key) returning after reply.Cleaned → ⊥
    not_back small returning after faithful stands applies =
        elim applies.served [
          | inl refuses ↦ let e : reply.Cleaned ≡ reply.Refused refuses.refusal = refuses.reply_is in cc
          | inr once ↦ by_end once once.came once.ends once.told
        ]
      where
        by_end : (once : CleanedOnce held honest failures key returning after reply.Cleaned) (came : Cleaned S) → TakesCopyBack once.job came once.process once.process' → RepliesBack came reply.Cleaned → ⊥
        by_end once (end.WrongPage back) ends told = told
        by_end once end.Stored ends told = cc
        by_end once end.Device ends told = cc
        by_end once end.Clean ends told =
            let vpn_is : once.job.vpn ≡ key.vpn = once.makes.page ∙ once.makes.job_page in
            not_backing held honest once.job once.process.memory once.process'.memory (holds_at held honest returning key.process once.process once.found faithful.coherent)
            (subst (λ v. v < 2 ^ 20) (sym vpn_is) small)
            (λ bytes.
            let at = stands bytes in
            let here : at.process ≡ once.process = let a = at.found in let b = once.found in cc in
            subst (λ v. CopyStands v bytes once.process.memory) (sym vpn_is) (subst (λ (q : SpaceValue S). CopyStands key.vpn bytes q.memory) here at.stands))
            ends.ends

    pub none_between : (before taken stepping stepped returning after : CoreValue S) → StoresBetween held honest failures key before taken stepping stepped returning after → ⊥
    none_between before taken stepping stepped returning after stores =
        let gone = gone_out before taken stores.goes_out in
        let first = leads_keep held honest failures key gone.small gone.bytes taken stepping stores.goes_out.faithful stores.first gone.stands in
        not_back gone.small returning after (runs_faithful stores.later.events stores.later.replies stepped returning stores.stores.steps.faithful stores.later.runs)
        (λ other.
        leads_keep held honest failures key gone.small other stepped returning stores.stores.steps.faithful stores.later
        (stored_told gone.small gone.bytes other stepping stepped stores.stores first))
        stores.comes_back
