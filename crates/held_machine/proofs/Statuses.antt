-- How far a process has come: which calls leave it, and what a slice adds.
use Rattle.std.specs.Prelude.{◌≡◌, ℕ, suc, ◌+◌, ◌*◌, ◌<◌, ◌≤◌, ◌^◌, List, [], ◌∷◌, ◌++◌, length, replicate, slice_index_or, Result, Ok, Err, OnOk, IfErr}
use Rattle.std.proofs.Common.{arith, ap, ◌∙◌, length-append}
use Rattle.std.proofs.lemmas.List.{length-replicate}
use Rattle.clock_policy.specs.declared.answer.Bit.{Bit}
use Rattle.clock_policy.specs.declared.answer.Bit.TheVariants.{Zero, One, Gone}
use Rattle.clock_policy.specs.declared.answer.Verdict.{Verdict}
use Rattle.clock_policy.specs.declared.answer.Verdict.TheVariants as verdict
use Rattle.flat_machine.specs.declared.end.KillCause.{KillCause}
use Rattle.flat_machine.specs.declared.schedule.Turn.{Turn}
use Rattle.flat_machine.specs.Process.{opening}
use Rattle.flat_machine.specs.Schedule.{written_out, IsJoined}
use Rattle.machine_sides.specs.Admitting.{AdmissionValue}
use Rattle.machine_sides.specs.Cleaning.{TakesCopyBack}
use Rattle.machine_sides.specs.Collecting.{Looks}
use Rattle.machine_sides.specs.Loading.{Loads, DoesNotLoad}
use Rattle.machine_sides.specs.ProcessCalls.{Slices, TakesNotices, IsKilled}
use Rattle.machine_sides.specs.Purging.{Purges}
use Rattle.machine_sides.specs.SavingBack.{EndsSave}
use Rattle.machine_sides.specs.Sides.{PagerSideValue}
use Rattle.elf_image.specs.Start.{Start}
use Rattle.machine_sides.specs.Starting.{Begins}
use Rattle.machine_sides.specs.Sweeping.{Sweeps, ReadsBit, HeedsVerdict}
use Rattle.machine_sides.specs.declared.cleaning.CopyBar.{CopyBar}
use Rattle.machine_sides.specs.declared.cleaning.Copying.{Copying}
use Rattle.machine_sides.specs.declared.collecting.Looked.{Looked}
use Rattle.machine_sides.specs.declared.collecting.Looked.TheVariants as look
use Rattle.machine_sides.specs.declared.purging.PurgeRefusal.{PurgeRefusal}
use Rattle.machine_sides.specs.declared.saving_back.SaveOutcome.{SaveOutcome}
use Rattle.machine_sides.specs.declared.saving_back.SaveOutcome.TheVariants as save
use Rattle.machine_sides.specs.declared.sweeping.Swept.{Swept}
use Rattle.machine_sides.specs.declared.sweeping.Swept.TheVariants.{NothingResident, Asked, Victim}
use Rattle.page_store.specs.JobValue.{SavedValue}
use Rattle.page_store.specs.declared.answer.Cleaned.{Cleaned}
use Rattle.paged_memory.specs.declared.filling.PageInFault.{PageInFault}
use Rattle.space_core.specs.Slicing.{shown_process}
use Rattle.space_core.specs.StandsFor.{SpaceValue}
use Rattle.space_core.specs.declared.progress.SliceStop.{SliceStop}
use Rattle.status_cell.specs.Counts.{AtMost, nothing}
use Rattle.swap_slots.specs.PoolValue.{PoolValue}
use Rattle.held_machine.specs.Cleaning.{BeginsNext, CopiesOrNot}
use Rattle.held_machine.specs.HeldValue.{status_of}
use Rattle.held_machine.specs.declared.cleaning.Begun.{Begun}
use Rattle.held_machine.specs.declared.cleaning.Begun.TheVariants as begun
use Rattle.held_machine.proofs.Outputs.{run_keeps_output}

-- ---- how many instructions a schedule can have

few_in : (turns : List Turn) → ((k : ℕ) (d : Turn) → k < length turns → (slice_index_or turns k d).count ≤ 4294967295) → length (written_out turns) ≤ length turns * 4294967295
few_in [] small = omega arith
few_in (turn ∷ turns) small =
    let first : turn.count ≤ 4294967295 = small 0 turn (omega arith) in
    let rest : length (written_out turns) ≤ length turns * 4294967295 = few_in turns (λ k d h. small (suc k) d (omega arith)) in
    let parts : length (written_out (turn ∷ turns)) ≡ length (replicate turn.count turn.hart) + length (written_out turns) = length-append (replicate turn.count turn.hart) (written_out turns) in
    let run : length (replicate turn.count turn.hart) ≡ turn.count = length-replicate turn.count turn.hart in
    let more : length (turn ∷ turns) * 4294967295 ≡ length turns * 4294967295 + 4294967295 = omega arith in
    omega arith

pub few_steps : (turns : List Turn) → IsJoined turns → length (written_out turns) < 2 ^ 64
few_steps turns joined =
    let bound = few_in turns joined.small in
    let few = joined.few in
    omega arith

module _ {S : Type 0} where
  -- ---- what leaves it

  by_both : (old new : SpaceValue S) → new.schedule ≡ old.schedule → length new.running.environment.output ≡ length old.running.environment.output → status_of new ≡ status_of old
  unfolding status_of
  by_both old new e f = λ i. record { steps = length (written_out (e i)); output = f i }

  by_memory : (old new : SpaceValue S) → new ≡ record old { memory = new.memory } → status_of new ≡ status_of old
  by_memory old new e = by_both old new (ap (λ (s : SpaceValue S). s.schedule) e) (ap (λ (s : SpaceValue S). length s.running.environment.output) e)

  by_same : (old new : SpaceValue S) → new ≡ old → status_of new ≡ status_of old
  by_same old new e = ap status_of e

  reads : (bit : Bit) (vpn : ℕ) (old new : SpaceValue S) → ReadsBit bit vpn old new → status_of new ≡ status_of old
  reads Gone vpn old new e = by_same old new e
  reads Zero vpn old new c = by_memory old new c.stays
  reads One vpn old new c = by_memory old new c.stays

  heeds : (told : Verdict) (vpn : ℕ) (old new : SpaceValue S) → HeedsVerdict told vpn old new → status_of new ≡ status_of old
  heeds verdict.GoOn vpn old new e = by_same old new e
  heeds (verdict.Victim key) vpn old new c = by_memory old new c.stays

  pub sweep_leaves : (pager pager' : PagerSideValue) (old new : SpaceValue S) (swept : Swept) → Sweeps pager pager' old new swept → status_of new ≡ status_of old
  sweep_leaves pager pager' old new NothingResident h = by_same old new h.1.1
  sweep_leaves pager pager' old new (Asked key bit) h = heeds verdict.GoOn key.vpn h.between new h.heeded ∙ reads bit key.vpn old h.between h.read
  sweep_leaves pager pager' old new (Victim key) h = heeds (verdict.Victim key) key.vpn h.1.between new h.1.heeded ∙ reads h.0 key.vpn old h.1.between h.1.read

  pub look_leaves : (vpn : ℕ) (pager pager' : PagerSideValue) (old new : SpaceValue S) (slots slots' : PoolValue S) (looked : Looked S)
      → Looks vpn pager pager' old new slots slots' looked → status_of new ≡ status_of old
  look_leaves vpn pager pager' old new slots slots' look.NotLeaving h = by_same old new h.1.process_stays
  look_leaves vpn pager pager' old new slots slots' look.NotYet h = by_same old new h.stays.process_stays
  look_leaves vpn pager pager' old new slots slots' look.Freed h = by_memory old new h.drops.stays
  look_leaves vpn pager pager' old new slots slots' (look.Dirty job) h = by_memory old new h.saving.stays
  look_leaves vpn pager pager' old new slots slots' look.NoSlot h = by_memory old new h.returns.mapped.stays

  pub save_leaves : (job : SavedValue S) (pager pager' : PagerSideValue) (old new : SpaceValue S) (outcome : SaveOutcome S)
      → EndsSave job pager pager' old new outcome → status_of new ≡ status_of old
  save_leaves job pager pager' old new save.Freed h = by_memory old new h.settles.stays
  save_leaves job pager pager' old new (save.WrongPage back) h = by_same old new h.process_stays
  save_leaves job pager pager' old new (save.ResidentAgain failure) h = by_memory h.between new h.returns.mapped.stays ∙ by_memory old h.between h.settles.stays

  pub purge_leaves : (pager pager' : PagerSideValue) (old new : SpaceValue S) (slots slots' : PoolValue S) (result : Result (Unit {0}) PurgeRefusal)
      → Purges pager pager' old new slots slots' result → status_of new ≡ status_of old
  purge_leaves pager pager' old new slots slots' (Ok done) h = by_both old new (ap (λ (s : SpaceValue S). s.schedule) h.is) (ap (λ (s : SpaceValue S). length s.running.environment.output) h.is)
  purge_leaves pager pager' old new slots slots' (Err reason) h = by_same old new h.process_stays

  pub load_leaves : (held : S → List ℕ) (honest : Type 0) (admission : AdmissionValue) (old new : SpaceValue S) → Loads held honest admission old new → status_of new ≡ status_of old
  load_leaves held honest admission old new h = by_memory old new h.stays

  pub no_load_leaves : (held : S → List ℕ) (honest : Type 0) (failures : S → ℕ) (admission back : AdmissionValue) (fault : PageInFault) (old new : SpaceValue S)
      → DoesNotLoad held honest failures admission back fault old new → status_of new ≡ status_of old
  no_load_leaves held honest failures admission back fault old new h = by_memory old new h.rest.stays

  pub either_load_leaves : (held : S → List ℕ) (honest : Type 0) (failures : S → ℕ) (admission : AdmissionValue) (old new : SpaceValue S) (result : Result (Unit {0}) (AdmissionValue × PageInFault))
      → OnOk result (Loads held honest admission old new) → IfErr result (λ back. DoesNotLoad held honest failures admission back.0 back.1 old new) → status_of new ≡ status_of old
  either_load_leaves held honest failures admission old new (Ok u) h k = load_leaves held honest admission old new h
  either_load_leaves held honest failures admission old new (Err back) h k = no_load_leaves held honest failures admission back.0 back.1 old new k

  pub begin_leaves : (from : ℕ) (reply : Begun) (old new : SpaceValue S) → BeginsNext from reply old new → status_of new ≡ status_of old
  begin_leaves from begun.NoPage old new h = by_same old new h.1
  begin_leaves from (begun.Page vpn) old new h = by_memory old new h.starts.stays
  begin_leaves from (begun.Barred vpn reason) old new h = by_same old new h.stays

  pub copy_leaves : (vpn : ℕ) (answer : Result (Copying S) CopyBar) (old new : SpaceValue S) (slots slots' : PoolValue S) → CopiesOrNot vpn answer old new slots slots' → status_of new ≡ status_of old
  copy_leaves vpn (Ok answer) old new slots slots' h = by_memory old new h.copies.lends.stays
  copy_leaves vpn (Err reason) old new slots slots' h = by_same old new h.stays

  pub back_leaves : (job : SavedValue S) (answer : Cleaned S) (old new : SpaceValue S) → TakesCopyBack job answer old new → status_of new ≡ status_of old
  back_leaves job answer old new h = by_memory old new h.stays

  pub notice_leaves : (hart : ℕ) (old new : SpaceValue S) → TakesNotices hart old new → status_of new ≡ status_of old
  notice_leaves hart old new e =
      by_both old new (ap (λ (s : SpaceValue S). s.schedule) e) (ap (λ (s : SpaceValue S). length s.running.environment.output) e)

  pub kill_leaves : (cause : KillCause) (old new : SpaceValue S) → IsKilled cause old new → status_of new ≡ status_of old
  kill_leaves cause old new e =
      by_both old new (ap (λ (s : SpaceValue S). s.schedule) e) (ap (λ (s : SpaceValue S). length s.running.environment.output) e)

  -- ---- what it is at first, and what a slice adds

  pub nothing_yet : (number : ℕ) (start : Start) (side : SpaceValue S) → Begins number start side → status_of side ≡ nothing
  unfolding status_of opening
  nothing_yet number start side h = λ i. record { steps = length (written_out (h.schedule i)); output = length (h.running i).environment.output }

  pub slice_steps : (held : S → List ℕ) (honest : Type 0) (hart budget : ℕ) (old new : SpaceValue S) (ran : ℕ) (why : SliceStop) → Slices held honest hart budget old new ran why
      → length (written_out new.schedule) ≡ (status_of old).steps + ran
  unfolding status_of
  slice_steps held honest hart budget old new ran why h =
      let recorded : length (written_out new.schedule) ≡ length (written_out old.schedule ++ replicate ran hart) = ap length h.recorded in
      let parts : length (written_out old.schedule ++ replicate ran hart) ≡ length (written_out old.schedule) + length (replicate ran hart) = length-append (written_out old.schedule) (replicate ran hart) in
      let run : length (replicate ran hart) ≡ ran = length-replicate ran hart in
      omega arith

  pub slice_rises : (held : S → List ℕ) (honest : Type 0) (hart budget : ℕ) (old new : SpaceValue S) (ran : ℕ) (why : SliceStop) → Slices held honest hart budget old new ran why
      → AtMost (status_of old) (status_of new)
  unfolding status_of
  slice_rises held honest hart budget old new ran why h =
      let more = slice_steps held honest hart budget old new ran why h in
      (omega arith, run_keeps_output (replicate ran hart) (shown_process held old) (shown_process held new) h.ran_is)
