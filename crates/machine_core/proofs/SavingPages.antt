-- A page that is being saved counts once, and its save is out.
use Rattle.std.proofs.Common.{◌≡◌, ℕ, ◌≤◌, ◌<◌, ◌^◌, ◌==◌, Bool, true, false, List, Option, Some, None, slice_get, position, refl, sym, ap, ◌∙◌, arith}
use Rattle.std.specs.Prelude.{if◌then◌else◌}
use borrow.Author.Tests.{eqb-true}
use Rattle.clock_policy.specs.declared.key.Key.{Key}
use Rattle.clock_policy.specs.Residents.{is_key}
use Rattle.paged_memory.proofs.access_laws.AmongLaws.{some_saving, saving_there}
use Rattle.space_core.specs.StandsFor.{SpaceValue}
use Rattle.machine_core.specs.declared.error.EventRefusal.TheVariants as refusal
use Rattle.machine_core.specs.Machine.{CoreValue, IsMachine}
use Rattle.machine_core.specs.MachineRun.{of_process}
use Rattle.paged_memory.specs.moves.Stages.{is_saving_stage}
use Rattle.paged_memory.specs.Whole.{stage_in}
use Rattle.machine_sides.specs.SavingBack.{is_saving_at}
use Rattle.machine_sides.proofs.StageLaws.{stage_passes}
use Rattle.machine_core.specs.SavingOut.{saving_reason, saved_refusal, is_save_of}
use Rattle.machine_sides.specs.Together.{savings_in, key_of}
use Rattle.machine_core.proofs.TotalLaws.{total_at}
use Rattle.machine_core.proofs.JobsOut.{both_true, same_key, none_found}

module _ {S : Type 0} where
  -- a page that is being saved, of a number that there is
  pub record IsSavingAt (space : SpaceValue S) (vpn : ℕ) : Type 0 where
    pub small : vpn < 2 ^ 20
    pub saving : is_saving_stage (stage_in space.memory vpn) ≡ true

  pub saving_at : (space : SpaceValue S) (vpn : ℕ) → is_saving_at space vpn ≡ true → IsSavingAt space vpn
  saving_at space vpn h = let there = stage_passes space is_saving_stage vpn refl h in record { small = there.0; saving = there.1 }

  -- the process of a save that is not refused, and its page
  pub record SavesPage (processes : List (SpaceValue S)) (key : Key) : Type 0 where
    pub process : SpaceValue S
    pub found : slice_get processes key.process ≡ Some process
    pub saving : IsSavingAt process key.vpn

  pub not_refused : (processes : List (SpaceValue S)) (key : Key) → saved_refusal key processes ≡ None → SavesPage processes key
  not_refused processes key h = by_process (slice_get processes key.process) refl h
    where
      by_test : (q : SpaceValue S) (b : Bool) → slice_get processes key.process ≡ Some q → is_saving_at q key.vpn ≡ b → (if b then None else Some refusal.NotSaving) ≡ None → SavesPage processes key
      by_test q true found is h = record { process = q; found = found; saving = saving_at q key.vpn is }
      by_test q false found is h = cc

      by_process : (o : Option (SpaceValue S)) → slice_get processes key.process ≡ o → of_process (saving_reason key.vpn) o ≡ None → SavesPage processes key
      by_process None at h = cc
      by_process (Some q) at h = by_test q (is_saving_at q key.vpn) at refl h

  counted_at : (q : SpaceValue S) (key : Key) → q.memory.process ≡ key.process → IsSavingAt q key.vpn → 1 ≤ savings_in q (is_key key)
  unfolding savings_in
  counted_at q key number saving =
      some_saving q.memory (λ vpn. is_key key (key_of q.memory.process vpn)) key.vpn saving.small saving.saving (same_key key q.memory.process key.vpn number refl)

  -- the save of a page that is being saved is out
  pub is_out : (core : CoreValue S) (key : Key) → IsMachine core → saved_refusal key core.processes ≡ None → position (is_save_of key) core.jobs ≡ None → ⊥
  is_out core key machine allowed none =
      let page = not_refused core.processes key allowed in
      let one = counted_at page.process key (machine.numbered key.process page.process page.found) page.saving in
      let all = total_at (λ (r : SpaceValue S). savings_in r (is_key key)) core.processes key.process page.process page.found in
      let saved = machine.saved (is_key key) in
      let jobs = none_found key core.jobs none in
      omega (arith, one, all, saved, jobs)

  -- a process that counts for a page has it as one that is being saved
  pub saving_counted : (space : SpaceValue S) (key : Key) → 1 ≤ savings_in space (is_key key) → (space.memory.process ≡ key.process) × IsSavingAt space key.vpn
  unfolding savings_in
  saving_counted space key h =
      let found = saving_there space.memory (λ vpn. is_key key (key_of space.memory.process vpn)) h in
      let same = both_true (space.memory.process == key.process) (found.number == key.vpn) found.passes in
      let vpn : found.number ≡ key.vpn = eqb-true found.number key.vpn same.1 in
      let small = found.small in (
        eqb-true space.memory.process key.process same.0,
        record { small = omega (arith, small, vpn); saving = ap (λ v. is_saving_stage (stage_in space.memory v)) (sym vpn) ∙ found.saving },
      )
