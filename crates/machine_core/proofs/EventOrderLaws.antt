-- What each event adds to the recorded orders, and the victim that it tells of.
use Rattle.std.proofs.Common.{◌≡◌, ℕ, ◌==◌, ◌&&◌, Bool, true, false, List, [], ◌∷◌, ◌++◌, Option, Some, None, Ok, slice_get, inl, inr, refl, sym, ap, ◌∙◌, arith, eq-eqb, ne_eqb, Result}
use Rattle.std.specs.Prelude.{replicate, slice_index_or, is_some, if◌then◌else◌}
use Rattle.clock_policy.proofs.ResidentLaws.{victim_asked}
use Rattle.clock_policy.specs.ClockPro.{question_of, answered}
use Rattle.clock_policy.specs.declared.answer.Bit.{Bit}
use Rattle.clock_policy.specs.declared.answer.Bit.TheVariants.{Zero, One, Gone}
use Rattle.clock_policy.specs.declared.answer.Verdict.{Verdict}
use Rattle.clock_policy.specs.declared.answer.Verdict.TheVariants as verdict
use Rattle.clock_policy.specs.declared.key.Key.{Key}
use Rattle.flat_machine.specs.Schedule.{written_out}
use Rattle.flat_machine.specs.declared.end.End.{End}
use Rattle.flat_machine.specs.declared.end.KillCause.{KillCause}
use Rattle.machine_core.specs.Headline.{has_run, adds}
use Rattle.machine_core.specs.Machine.{CoreValue}
use Rattle.machine_core.specs.MachineRun.{step_reply, sweep_reply, hart_reason, of_process, StepsHart, Notices, Kills, SweepsOnce}
use Rattle.machine_sides.specs.ProcessCalls.{Slices}
use Rattle.machine_sides.specs.Sweeping.{ReadsBit, HeedsVerdict, bit_at}
use Rattle.machine_core.specs.declared.error.EventRefusal.TheVariants as refusal
use Rattle.clock_policy.specs.declared.refusal.Refusal.{Refusal}
use Rattle.machine_core.specs.declared.event.Event.TheVariants.{Step, Notice, Sweep, PageIn, Kill}
use Rattle.machine_core.specs.declared.event.Reply.{Reply}
use Rattle.machine_core.specs.declared.event.Reply.TheVariants.{Refused}
use Rattle.machine_core.specs.declared.event.Reply.TheVariants as reply
use Rattle.pager_core.specs.Pager.{pager_answered}
use Rattle.machine_sides.specs.Sides.{PagerSideValue}
use Rattle.space_core.specs.StandsFor.{SpaceValue}
use Rattle.space_core.specs.declared.progress.SliceStop.{SliceStop}
use Rattle.space_core.specs.declared.progress.SliceStop.TheVariants as stop
use Rattle.paged_memory.specs.declared.filling.PageInFault.{PageInFault}
use Rattle.paged_memory.specs.declared.filling.PageInFault.TheVariants as fault
use Rattle.machine_core.specs.PagingIn.{fault_reply, PagesInOnce}
use Rattle.machine_core.proofs.OrderLaws.{SameOrder, same_beside, same_all, then_same, goes_same, Tells, one_remains, quiet_remains, quiet_tells}

-- the question's page is the victim
record ToldVictim (key : Key) (v : Verdict) (k : Key) : Type 0 where
  pub victim : Key
  pub is : v ≡ verdict.Victim victim
  pub same : key ≡ k

told_victim : (key : Key) (bit : Bit) (v : Verdict) (k : Key) → sweep_reply key bit v ≡ reply.Victim k → ToldVictim key v k
told_victim key bit verdict.GoOn k h = absurd (let e = h in cc)
told_victim key bit (verdict.Victim x) k h = record { victim = x; is = refl; same = cc }

no_fault_victim : (f : PageInFault) (key : Key) → fault_reply f ≡ reply.Victim key → ⊥
no_fault_victim fault.NotAbsent key is = cc
no_fault_victim fault.Device key is = cc
no_fault_victim fault.Damaged key is = cc
no_fault_victim fault.NoMemory key is = cc

module _ {S : Type 0} where
  module _ (held : S → List ℕ) (honest : Type 0) where
    -- how many instructions ran of one that was allowed, by why the hart stopped
    ran_one : (hart ran : ℕ) (why : SliceStop) (old new : SpaceValue S) → old.running.ending ≡ None → Slices held honest hart 1 old new ran why → replicate ran hart ≡ (if has_run (step_reply why) then hart ∷ [] else [])
    ran_one hart ran stop.Budget old new going slice = ap (λ n. replicate n hart) slice.stops.0
    ran_one hart ran (stop.Absent page) old new going slice = let fewer = slice.stops.1.0.fewer in let e : ran ≡ 0 = omega (arith, fewer) in ap (λ n. replicate n hart) e
    ran_one hart ran stop.Yield old new going slice = let ends = slice.stops in let within = slice.within in let c = ends.count in let e : ran ≡ 1 = omega (arith, within, c) in ap (λ n. replicate n hart) e
    ran_one hart ran stop.HartDone old new going slice = let ends = slice.stops in let within = slice.within in let c = ends.count in let e : ran ≡ 1 = omega (arith, within, c) in ap (λ n. replicate n hart) e
    ran_one hart ran stop.Ended old new going slice =
        elim slice.stops [
          | inl before ↦ let s : is_some old.running.ending ≡ true = before.2 in let n : is_some old.running.ending ≡ false = ap is_some going in cc
          | inr ends ↦ let within = slice.within in let c = ends.count in let e : ran ≡ 1 = omega (arith, within, c) in ap (λ n. replicate n hart) e
        ]
    ran_one hart ran stop.NoHart old new going slice = ap (λ n. replicate n hart) slice.stops.0
    ran_one hart ran stop.ScheduleFull old new going slice = let fewer = slice.stops.1.fewer in let e : ran ≡ 0 = omega (arith, fewer) in ap (λ n. replicate n hart) e
    ran_one hart ran stop.NoMemory old new going slice = let fewer = slice.stops.1.0.fewer in let e : ran ≡ 0 = omega (arith, fewer) in ap (λ n. replicate n hart) e

    no_step_victim : (why : SliceStop) (key : Key) → step_reply why ≡ reply.Victim key → ⊥
    no_step_victim stop.Budget key is = cc
    no_step_victim (stop.Absent page) key is = cc
    no_step_victim stop.Yield key is = cc
    no_step_victim stop.HartDone key is = cc
    no_step_victim stop.Ended key is = cc
    no_step_victim stop.NoHart key is = cc
    no_step_victim stop.ScheduleFull key is = cc
    no_step_victim stop.NoMemory key is = cc

    -- a hart that may run is of a process that goes on
    not_ended : (o : Option End) (live : Bool) → (if live then (if is_some o then Some refusal.Ended else None) else Some refusal.NoHart) ≡ None → o ≡ None
    not_ended None live h = refl
    not_ended (Some end) true h = cc
    not_ended (Some end) false h = cc

    own_added : (hart p : ℕ) (ran : Bool) → (if ran && (p == p) then hart ∷ [] else []) ≡ (if ran then hart ∷ [] else [])
    own_added hart p true = ap (λ b. if b then hart ∷ [] else []) (eq-eqb p p refl)
    own_added hart p false = refl

    other_added : (hart number p : ℕ) (ran : Bool) → (number ≡ p → ⊥) → (if ran && (number == p) then hart ∷ [] else []) ≡ []
    other_added hart number p true apart = ap (λ b. if b then hart ∷ [] else []) (ne_eqb number p apart)
    other_added hart number p false apart = refl

    -- a step ran one instruction, or none
    pub one_ran : (p hart : ℕ) (old new : CoreValue S) (answer : Reply) (steps : StepsHart held honest p hart old new answer) → replicate steps.one.how.ran hart ≡ (if has_run (step_reply steps.why) then hart ∷ [] else [])
    one_ran p hart old new answer steps =
        let one = steps.one in
        let going : one.process.running.ending ≡ None = not_ended one.process.running.ending (slice_index_or one.process.running.environment.live hart false) (sym (ap (of_process (hart_reason hart)) one.found) ∙ steps.allowed) in
        ran_one hart one.how.ran steps.why one.process one.process' going one.how.slice

    pub step_tells : (p hart : ℕ) (old new : CoreValue S) (answer : Reply) → StepsHart held honest p hart old new answer → Tells (Step p hart) answer old new
    step_tells p hart old new answer steps =
        let one = steps.one in
        let slice = one.how.slice in
        let ran : replicate one.how.ran hart ≡ adds p (Step p hart) answer = one_ran p hart old new answer steps ∙ ap (λ r. if has_run r then hart ∷ [] else []) (sym steps.reply_is) ∙ sym (own_added hart p (has_run answer)) in
        record {
          recorded = λ number process at.
              one_remains old.processes new.processes p one.process one.process' one.found one.is (λ n. adds n (Step p hart) answer)
              (record { image = slice.kept.image; input = slice.kept.input; recorded = slice.recorded ∙ ap (λ l. written_out one.process.schedule ++ l) ran })
              (λ n apart. other_added hart n p (has_run answer) apart) number process at;
          victim = λ key is. absurd (no_step_victim steps.why key (sym steps.reply_is ∙ is));
        }

  own_order : (q q' : SpaceValue S) → q'.image ≡ q.image → q'.input ≡ q.input → q'.schedule ≡ q.schedule → SameOrder q q'
  own_order q q' image input schedule = record { image = image; input = input; schedule = schedule }

  pub notice_tells : (p hart : ℕ) (old new : CoreValue S) (answer : Reply) → Notices p hart old new answer → Tells (Notice p hart) answer old new
  notice_tells p hart old new answer notices =
      let one = notices.one in
      quiet_tells (Notice p hart) old new answer p one.process one.process' one.found one.is
      (own_order one.process one.process' (ap (λ (r : SpaceValue S). r.image) one.how) (ap (λ (r : SpaceValue S). r.input) one.how) (ap (λ (r : SpaceValue S). r.schedule) one.how))
      (λ _. refl) (λ key is. let e : reply.Noticed ≡ reply.Victim key = sym notices.reply_is ∙ is in cc)

  pub kill_tells : (p : ℕ) (cause : KillCause) (old new : CoreValue S) (answer : Reply) → Kills p cause old new answer → Tells (Kill p cause) answer old new
  kill_tells p cause old new answer kills =
      let one = kills.one in
      quiet_tells (Kill p cause) old new answer p one.process one.process' one.found one.is
      (own_order one.process one.process' (ap (λ (r : SpaceValue S). r.image) one.how) (ap (λ (r : SpaceValue S). r.input) one.how) (ap (λ (r : SpaceValue S). r.schedule) one.how))
      (λ _. refl) (λ key is. let e : reply.Killed ≡ reply.Victim key = sym kills.reply_is ∙ is in cc)

  read_order : (bit : Bit) (vpn : ℕ) (old new : SpaceValue S) → ReadsBit bit vpn old new → SameOrder old new
  read_order Gone vpn old new h = same_all old new h
  read_order Zero vpn old new h = same_beside old new h.stays
  read_order One vpn old new h = same_beside old new h.stays

  heeded_order : (v : Verdict) (vpn : ℕ) (old new : SpaceValue S) → HeedsVerdict v vpn old new → SameOrder old new
  heeded_order verdict.GoOn vpn old new h = same_all old new h
  heeded_order (verdict.Victim key) vpn old new h = same_beside old new h.stays

  pub sweep_tells : (old new : CoreValue S) (answer : Reply) → SweepsOnce old new answer → Tells Sweep answer old new
  unfolding pager_answered
  sweep_tells old new answer sweeps = record {
    recorded = λ number process at.
        let first = read_order sweeps.bit sweeps.key.vpn sweeps.process sweeps.answers.between sweeps.answers.read in
        let second = heeded_order sweeps.verdict sweeps.key.vpn sweeps.answers.between sweeps.process' sweeps.answers.heeded in
        quiet_remains old.processes new.processes sweeps.key.process sweeps.process sweeps.process' sweeps.found sweeps.processes
        (goes_same sweeps.process sweeps.process' (then_same sweeps.process sweeps.answers.between sweeps.process' first second)) number process at;
    victim = λ key is.
        let named = told_victim sweeps.key sweeps.bit sweeps.verdict key (sym sweeps.reply_is ∙ is) in
        let told : (answered sweeps.bit old.pager.pager.list).1 ≡ Ok (verdict.Victim named.victim) = sweeps.answers.told ∙ ap {B = Result Verdict Refusal} (λ v. Ok v) named.is in
        let q : question_of old.pager.pager.list ≡ Some named.victim = victim_asked sweeps.bit old.pager.pager.list named.victim told in
        let same : sweeps.key ≡ key = named.same in
        let victim : named.victim ≡ key = let a = sweeps.answers.question in cc in
        record {
          process = sweeps.process;
          found = ap (λ (k : Key). slice_get old.processes k.process) (sym same) ∙ sweeps.found;
          asked = q ∙ ap (λ (k : Key). Some k) victim;
          bit = sweeps.bit;
          as_asked = ap (λ (k : Key). bit_at sweeps.process k.vpn) (sym same) ∙ sweeps.answers.bit_is;
          named = told ∙ ap {B = Result Verdict Refusal} (λ (k : Key). Ok (verdict.Victim k)) victim;
          list = ap (λ (p : PagerSideValue). p.pager.list) sweeps.answers.pager_is;
        };
  }

  -- ---- a page that comes in

  pub page_in_tells : (held : S → List ℕ) (honest : Type 0) (failures : S → ℕ) (key : Key) (old new : CoreValue S) (answer : Reply) → PagesInOnce held honest failures key old new answer → Tells (PageIn key) answer old new
  page_in_tells held honest failures key old new answer once =
      quiet_tells (PageIn key) old new answer key.process once.process once.process' once.found once.processes
      (elim once.how [
        | inl comes ↦ same_beside once.process once.process' comes.loads.stays
        | inr not ↦ elim not [
          | inl back ↦ same_beside once.process once.process' back.rest.stays
          | inr unlisted ↦ same_all once.process once.process' (ap (λ (p : SpaceValue S). p) unlisted.process_is)
        ]
      ])
      (λ _. refl)
      (λ k is. elim once.how [
        | inl comes ↦ let e : reply.Mapped ≡ reply.Victim k = sym comes.reply_is ∙ is in cc
        | inr not ↦ elim not [
          | inl back ↦ no_fault_victim back.fault k (sym back.reply_is ∙ is)
          | inr unlisted ↦ let e : Refused refusal.NoMemory ≡ reply.Victim k = sym unlisted.reply_is ∙ is in cc
        ]
      ])
