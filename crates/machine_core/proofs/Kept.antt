-- The machine stays one where one process and what it shares change together.
use Rattle.std.proofs.Common.{◌≡◌, ℕ, ◌+◌, Bool, true, List, length, Some, slice_get, inl, inr, sym, ap, ◌∙◌, arith, subst}
use Rattle.std.specs.Prelude.{slice_set, All}
use Rattle.std.proofs.lemmas.Bool.Decides.{eqb_tells}
use Rattle.std.proofs.lemmas.List.{length-set}
use Rattle.clock_policy.specs.declared.key.Key.{Key}
use Rattle.clock_policy.specs.Lawful.{Lawful}
use Rattle.page_store.specs.JobValue.{JobValue}
use Rattle.paged_memory.proofs.access_laws.AlikeLaws.{SavingsStay}
use Rattle.paged_memory.specs.cleaning.Copies.{CopyStands, KeepsCopies, LeavesCopies}
use Rattle.paged_memory.specs.moves.Stages.{is_saving_stage}
use Rattle.paged_memory.specs.Whole.{stage_in, frame_in, slots_within}
use Rattle.machine_sides.specs.Together.{Together, residents_in, savings_in, copies_in, frames_in}
use Rattle.machine_core.specs.Machine.{CoreValue, IsMachine, IsSaveOut, IsCopyOut, total, jobs_where, numbers_below}
use Rattle.machine_sides.proofs.TogetherLaws.{copies_same}
use Rattle.machine_core.proofs.TotalLaws.{total_set, got_set, get_set_same, get_set_other, All_map}
use Rattle.space_core.specs.StandsFor.{SpaceValue}

module _ {S : Type 0} where
  -- what one process and what it shares become
  pub record Moves (core core' : CoreValue S) (p : ℕ) (process process' : SpaceValue S) : Type 0 where
    pub found : slice_get core.processes p ≡ Some process
    pub processes : core'.processes ≡ slice_set core.processes p process'
    pub together : Together core.pager.pager core'.pager.pager process process'
    pub lawful : Lawful core'.pager.pager.list
    pub frames : core'.pager.pager.list.frames ≡ core'.pager.pager.size
    pub saved : (test : Key → Bool) → jobs_where test core'.jobs + savings_in process test ≡ jobs_where test core.jobs + savings_in process' test
    pub slotted : length core'.slots.free + (slots_within process'.memory + (length core'.jobs + length core'.copies)) ≡ length core.slots.free + (slots_within process.memory + (length core.jobs + length core.copies))
    pub slots : core'.slots.size ≡ core.slots.size
    pub out : All (IsSaveOut core'.processes) core'.jobs
    pub copied : (test : Key → Bool) → jobs_where test core'.copies + copies_in process test ≡ jobs_where test core.copies + copies_in process' test
    pub copies_out : All (IsCopyOut core'.processes) core'.copies

  pub moved_machine : (core core' : CoreValue S) (p : ℕ) (process process' : SpaceValue S) → IsMachine core → Moves core core' p process process' → IsMachine core'
  moved_machine core core' p process process' machine moves = record {
    lawful = moves.lawful;
    frames = moves.frames;
    numbered = λ number q at. numbered number q (ap (λ l. slice_get l number) (sym moves.processes) ∙ at);
    few =
        let e : length core'.processes ≡ length core.processes = ap length moves.processes ∙ length-set core.processes p process' in
        let few = machine.few in
        omega (arith, e, few);
    listed = λ test.
        let t = totals (λ (q : SpaceValue S). residents_in q test) in
        let listed = machine.listed test in
        let both = moves.together.listed test in
        omega (arith, t, listed, both);
    framed = λ test.
        let t = totals (λ (q : SpaceValue S). frames_in q test) in
        let framed = machine.framed test in
        let both = moves.together.framed test in
        let size : numbers_below core'.pager.pager.size test ≡ numbers_below core.pager.pager.size test = ap (λ n. numbers_below n test) moves.together.size in
        omega (arith, t, framed, both, size);
    saved = λ test.
        let t = totals (λ (q : SpaceValue S). savings_in q test) in
        let saved = machine.saved test in
        let both = moves.saved test in
        omega (arith, t, saved, both);
    out = moves.out;
    copied = λ test.
        let t = totals (λ (q : SpaceValue S). copies_in q test) in
        let copied = machine.copied test in
        let both = moves.copied test in
        omega (arith, t, copied, both);
    copies_out = moves.copies_out;
    slotted =
        let t = totals (λ (q : SpaceValue S). slots_within q.memory) in
        let slotted = machine.slotted in
        let both = moves.slotted in
        let size = moves.slots in
        omega (arith, t, slotted, both, size);
  }
    where
      totals : (f : SpaceValue S → ℕ) → total f core'.processes + f process ≡ total f core.processes + f process'
      totals f = ap (λ l. total f l + f process) moves.processes ∙ total_set f core.processes p process process' moves.found

      numbered : (number : ℕ) (q : SpaceValue S) → slice_get (slice_set core.processes p process') number ≡ Some q → q.memory.process ≡ number
      numbered number q at =
          elim (got_set core.processes p number process' q at) [
            | inl e ↦ ap (λ (r : SpaceValue S). r.memory.process) e.1 ∙ moves.together.process ∙ machine.numbered p process moves.found ∙ sym e.0
            | inr e ↦ machine.numbered number q e
          ]

  -- saves that are out stay so where the pages that are being saved stay
  pub out_stays : (processes : List (SpaceValue S)) (p : ℕ) (process process' : SpaceValue S) (jobs : List (JobValue S)) → slice_get processes p ≡ Some process
      → SavingsStay process.memory process'.memory → All (IsSaveOut processes) jobs → All (IsSaveOut (slice_set processes p process')) jobs
  out_stays processes p process process' jobs found stay all = All_map (IsSaveOut processes) (IsSaveOut (slice_set processes p process')) one jobs all
    where
      one : (job : JobValue S) → IsSaveOut processes job → IsSaveOut (slice_set processes p process') job
      one job out =
          elim (eqb_tells job.process p) [
            | inl same ↦
                let there : out.process ≡ process = let a = out.found in let b = found in let c = same.1 in cc in
                let was : is_saving_stage (stage_in process.memory job.vpn) ≡ true = ap (λ (q : SpaceValue S). is_saving_stage (stage_in q.memory job.vpn)) (sym there) ∙ out.saving in
                let still = stay job.vpn out.small was in
                record {
                  process = process';
                  frame = out.frame;
                  small = out.small;
                  found = ap (slice_get (slice_set processes p process')) same.1 ∙ get_set_same processes p process process' found;
                  saving = ap is_saving_stage still.0 ∙ was;
                  framed = still.1 ∙ ap (λ (q : SpaceValue S). frame_in q.memory job.vpn) (sym there) ∙ out.framed;
                  same = out.same;
                }
            | inr apart ↦ record {
              process = out.process;
              frame = out.frame;
              small = out.small;
              found = get_set_other processes p job.process process' apart.1 ∙ out.found;
              saving = out.saving;
              framed = out.framed;
              same = out.same;
            }
          ]

  -- copies that are out stand where what stood stands
  pub copies_stay : (processes : List (SpaceValue S)) (p : ℕ) (process process' : SpaceValue S) (copies : List (JobValue S)) → slice_get processes p ≡ Some process
      → KeepsCopies process.memory process'.memory → All (IsCopyOut processes) copies → All (IsCopyOut (slice_set processes p process')) copies
  copies_stay processes p process process' copies found stay all = All_map (IsCopyOut processes) (IsCopyOut (slice_set processes p process')) one copies all
    where
      one : (job : JobValue S) → IsCopyOut processes job → IsCopyOut (slice_set processes p process') job
      one job out =
          elim (eqb_tells job.process p) [
            | inl same ↦
                let there : out.process ≡ process = let a = out.found in let b = found in let c = same.1 in cc in
                record {
                  process = process';
                  small = out.small;
                  found = ap (slice_get (slice_set processes p process')) same.1 ∙ get_set_same processes p process process' found;
                  stands = stay job.vpn job.copy out.small (subst (λ (q : SpaceValue S). CopyStands job.vpn job.copy q.memory) there out.stands);
                }
            | inr apart ↦ record {
              process = out.process;
              small = out.small;
              found = get_set_other processes p job.process process' apart.1 ∙ out.found;
              stands = out.stands;
            }
          ]

  -- the same copies are out of a process
  pub copies_even : (process process' : SpaceValue S) (copies : List (JobValue S)) → process'.memory.process ≡ process.memory.process → LeavesCopies process.memory process'.memory
      → (test : Key → Bool) → jobs_where test copies + copies_in process test ≡ jobs_where test copies + copies_in process' test
  copies_even process process' copies number leaves test = let a = copies_same process process' number test leaves in omega (arith, a)
