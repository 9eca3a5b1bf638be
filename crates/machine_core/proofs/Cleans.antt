-- The machine stays one where a page's cleaning begins, and what that comes to.
use Rattle.std.proofs.Common.{◌≡◌, ◌⊎◌, ℕ, take, drop, List, ◌++◌, length, Option, Some, None, Result, Ok, Err, option_map, slice_get, inl, inr, refl, sym, ap, ◌∙◌, subst}
use Rattle.std.specs.Prelude.{slice_set, OnOk, OnErr}
use Rattle.std.proofs.lemmas.List.{length-set}
use Rattle.clock_policy.specs.declared.key.Key.{Key}
use Rattle.page_store.specs.JobValue.{JobValue}
use Rattle.paged_memory.proofs.access_laws.AlikeLaws.{CountsAlike, same_memory}
use Rattle.paged_memory.specs.cleaning.Cleaning.{refused_of}
use Rattle.swap_slots.specs.PoolValue.{PoolValue}
use Rattle.machine_core.specs.CleaningEvents.{clean_barred, clean_reason, clean_refusal, CleansOnce}
use Rattle.machine_core.specs.CleaningSteps.{clean_reply, CleansAt}
use Rattle.machine_core.specs.Machine.{CoreValue, IsMachine}
use Rattle.machine_core.specs.MachineRun.{of_process, RefusesEvent}
use Rattle.machine_core.proofs.TotalLaws.{set_back}
use Rattle.machine_core.specs.declared.event.Reply.{Reply}
use Rattle.machine_core.proofs.Cores.{alike_machine, lent_back}
use Rattle.machine_sides.specs.Cleaning.{StartsCleaning}
use Rattle.machine_sides.proofs.CleaningLaws.{starts_alike}
use Rattle.machine_sides.specs.Sides.{PagerSideValue}
use Rattle.machine_sides.specs.declared.cleaning.CleanBar.{CleanBar}
use Rattle.space_core.specs.StandsFor.{SpaceValue}

module _ {S : Type 0} where
  module _ (held : S → List ℕ) (pager : PagerSideValue) (slots : PoolValue S) (jobs copies : List (JobValue S)) (items lent new : List (SpaceValue S)) (n : ℕ) (key : Key) (result : Result (Unit {0}) CleanBar)
      (machine : IsMachine (record { pager = pager; slots = slots; processes = items; jobs = jobs; copies = copies })) (long : n ≡ length items) (same : lent ≡ items) (at : CleansAt held key.process key.vpn lent new result) where
    abbrev core : CoreValue S
    core = record { pager = pager; slots = slots; processes = items; jobs = jobs; copies = copies }

    abbrev left : CoreValue S
    left = record { pager = pager; slots = slots; processes = take n (new ++ drop (length new) items); jobs = jobs; copies = copies }

    found : slice_get items key.process ≡ Some at.process
    found = ap (λ l. slice_get l key.process) (sym same) ∙ at.found

    is_set : slice_set items key.process at.process' ≡ take n (new ++ drop (length new) items)
    is_set =
        let is : new ≡ slice_set items key.process at.process' = at.is ∙ ap (λ l. slice_set l key.process at.process') same in
        sym is ∙ sym (lent_back items new n long (ap length is ∙ length-set items key.process at.process'))

    alike : CountsAlike at.process.memory at.process'.memory
    alike = by_result result at.starts at.err
      where
        by_result : (r : Result (Unit {0}) CleanBar) → OnOk r (StartsCleaning key.vpn at.process at.process') → OnErr r (at.process' ≡ at.process) → CountsAlike at.process.memory at.process'.memory
        by_result (Ok done) starts err = starts_alike key.vpn at.process at.process' starts
        by_result (Err why) starts err = same_memory at.process.memory at.process'.memory (ap (λ (p : SpaceValue S). p.memory) err)

    pub clean_back : IsMachine left
    clean_back = subst (λ l. IsMachine (record { pager = pager; slots = slots; processes = l; jobs = jobs; copies = copies })) is_set (alike_machine core key.process at.process at.process' machine found alike)

    reason_is : clean_refusal key items ≡ option_map clean_barred (refused_of result)
    reason_is = ap (of_process (clean_reason key.vpn)) found ∙ ap (option_map clean_barred) (sym at.barred)

    told : (r : Result (Unit {0}) CleanBar) → r ≡ result → OnOk r (StartsCleaning key.vpn at.process at.process') → OnErr r (at.process' ≡ at.process) → (answer : Reply) → answer ≡ clean_reply r
        → RefusesEvent (clean_refusal key items) core left answer ⊎ CleansOnce held key core left answer
    told (Ok done) is starts err answer answer_is = inr (record {
      allowed = reason_is ∙ ap (λ r. option_map clean_barred (refused_of r)) (sym is);
      process = at.process;
      process' = at.process';
      found = found;
      starts = starts;
      memory = at.memory;
      processes = sym is_set;
      stays = refl;
      reply_is = answer_is;
    })
    told (Err why) is starts err answer answer_is = inl (record {
      refusal = clean_barred why;
      reason_is = reason_is ∙ ap (λ r. option_map clean_barred (refused_of r)) (sym is);
      reply_is = answer_is;
      stays = ap (λ l. record core { processes = l }) (sym is_set ∙ ap (slice_set items key.process) err ∙ set_back items key.process at.process found);
    })

    pub clean_told : (old : CoreValue S) (answer : Reply) → core ≡ old → answer ≡ clean_reply result → RefusesEvent (clean_refusal key old.processes) old left answer ⊎ CleansOnce held key old left answer
    clean_told old answer e is = subst (λ (o : CoreValue S). RefusesEvent (clean_refusal key o.processes) o left answer ⊎ CleansOnce held key o left answer) e (told result refl at.starts at.err answer is)
