-- What a machine of one process is told to have come to is what a flat run comes to.
use Rattle.std.proofs.Common.{◌≡◌, ℕ, ◌<◌, ◌≤◌, false, List, [], ◌∷◌, Option, Some, None, IsSome, map, length, slice_get, replicate, unwrap_or, inl, inr, refl, sym, ap, ◌∙◌, arith, subst}
use Rattle.std.specs.Bool.{⊤}
use Rattle.std.specs.Io.KnownBytes.{Appends}
use Rattle.std.proofs.lemmas.Bool.Decides.{leb_tells}
use Rattle.elf_image.specs.Start.{Start}
use Rattle.flat_machine.specs.Process.{opening}
use Rattle.flat_machine.specs.Schedule.{written_out}
use Rattle.flat_machine.specs.declared.end.End.{End}
use Rattle.flat_machine.specs.declared.end.End.TheVariants.{Exited, Trapped, Killed}
use Rattle.flat_machine.specs.declared.end.KillCause.{KillCause}
use Rattle.flat_machine.specs.declared.end.KillCause.TheVariants.{NoSwap, LoadFailed, Damaged, ScheduleFull, NoMemory, Limit}
use Rattle.guest_cli.specs.FlatRuns.{EndsLike, TellsFlatRun}
use Rattle.guest_frames.specs.FrameRuns.{PlaysProcess, RunsOnFrames}
use Rattle.machine_core.specs.Machine.{CoreValue}
use Rattle.machine_core.specs.Opening.{MachineBegins}
use Rattle.machine_sides.specs.FlatLines.{HaveLines, StandsForRun}
use Rattle.machine_sides.specs.Reporting.{Told, come_to, told}
use Rattle.machine_sides.specs.declared.report.ProcessReport.{ProcessReport}
use Rattle.serial_driver.specs.StepsLimit.{PlaysToSteps, is_limit_end, is_limited, limited_at, steps_at, steps_of}
use Rattle.space_core.specs.StandsFor.{SpaceValue, own_ending}
use Rattle.swap_slots.specs.Slot.{zero_content}

-- an ending that is told is the flat process's own, and none where the machine ended the program
ends_like : (end : End) (own : Option End) → own_ending (Some end) ≡ own → EndsLike end own
ends_like (Exited status) own is = sym is
ends_like (Trapped hart cause pc value) own is = sym is
ends_like (Killed cause) own is = sym is

tells : (limit : ℕ) (start : Start) (process : ProcessReport) (old new : Option (List ℕ)) (end : End) → StandsForRun start (told process) → own_ending (Some end) ≡ own_ending process.end
    → Appends old new process.output.items → process.steps ≤ limit → (end ≡ Killed Limit → process.steps ≡ limit) → TellsFlatRun limit start old new end process.steps
tells limit start process old new end stands is written within limited = record {
  harts = written_out process.turns.items;
  flat = stands.flat;
  ran = stands.ran;
  counted = stands.steps;
  written = subst (Appends old new) stands.output written;
  ended = ends_like end stands.flat.ending (is ∙ stands.ending);
  within = within;
  limited = limited;
}

-- of one that has ended its own ending; of one that has not, that the machine ended it
either : (told_end : Option End) (cause : KillCause) → own_ending (Some (unwrap_or told_end (Killed cause))) ≡ own_ending told_end
either None cause = refl
either (Some (Exited status)) cause = refl
either (Some (Trapped hart trap pc value)) cause = refl
either (Some (Killed why)) cause = refl

-- ---- the limit

module _ {S : Type 0} (frames : ℕ) (free : List S) (start : Start) (begun : CoreValue S) (begins : MachineBegins frames free (start ∷ []) begun) where
  no_steps : steps_at 0 begun ≡ 0
  no_steps =
      let at = begins.processes.each 0 (omega arith) in
      ap steps_of at.found ∙ ap (λ s. length (written_out s)) at.begins.schedule

  not_limited : limited_at 0 begun ≡ false
  unfolding opening
  not_limited =
      let at = begins.processes.each 0 (omega arith) in
      ap is_limited at.found ∙ ap (λ r. is_limit_end r.ending) at.begins.running

-- one that goes on, or was ended for the limit, did as many steps as are allowed
exact_limit : (own : Option End) (steps limit : ℕ) (end : End) → is_limit_end own ≡ false → (steps < limit → IsSome own) → steps ≤ limit → end ≡ unwrap_or own (Killed Limit) → end ≡ Killed Limit → steps ≡ limit
exact_limit None steps limit end unlimited short within is ended =
    elim (leb_tells limit steps) [ inl high ↦ let least = high.1 in omega (arith, least, within) | inr low ↦ let none = short low.1 in absurd (cc) ]
exact_limit (Some (Exited status)) steps limit end unlimited short within is ended = absurd (let e : Exited status ≡ Killed Limit = sym is ∙ ended in cc)
exact_limit (Some (Trapped hart cause pc value)) steps limit end unlimited short within is ended = absurd (let e : Trapped hart cause pc value ≡ Killed Limit = sym is ∙ ended in cc)
exact_limit (Some (Killed cause)) steps limit end unlimited short within is ended = absurd (by_cause cause unlimited (sym is ∙ ended))
  where
    by_cause : (cause : KillCause) → is_limit_end (Some (Killed cause)) ≡ false → Killed cause ≡ Killed Limit → ⊥
    by_cause NoSwap un e = cc
    by_cause LoadFailed un e = cc
    by_cause Damaged un e = cc
    by_cause ScheduleFull un e = cc
    by_cause NoMemory un e = cc
    by_cause Limit un e = cc

module _ (frames limit : ℕ) (start : Start) (report : ProcessReport) (end : End) (played : PlaysProcess frames 4096 1000 limit start report) (is : end ≡ unwrap_or report.end (Killed Limit)) where
  pub runs_so : RunsOnFrames frames limit start end report.steps
  runs_so = record {
    begun = played.begun;
    begins = played.begins;
    over = played.over;
    plays = played.plays;
    process = played.process;
    found = played.found;
    end_is = is ∙ ap (λ (t : Told). unwrap_or t.end (Killed Limit)) played.same;
    steps_are = ap (λ (t : Told). t.steps) played.same;
  }

  few_steps : report.steps ≤ limit
  few_steps =
      let none = no_steps frames (replicate 4096 zero_content) start played.begun played.begins in
      let within = played.plays.within (omega (arith, none)) in
      let many : steps_at 0 played.over ≡ report.steps = ap steps_of played.found ∙ sym (ap (λ (t : Told). t.steps) played.same) in
      omega (arith, within, many)

  all_steps : end ≡ Killed Limit → report.steps ≡ limit
  all_steps ended =
      let many : steps_at 0 played.over ≡ report.steps = ap steps_of played.found ∙ sym (ap (λ (t : Told). t.steps) played.same) in
      exact_limit played.process.running.ending report.steps limit end
      (sym (ap is_limited played.found) ∙ played.unlimited (not_limited frames (replicate 4096 zero_content) start played.begun played.begins))
      (λ less. played.plays.short (omega (arith, many, less)) played.process played.found) few_steps (is ∙ ap (λ (t : Told). unwrap_or t.end (Killed Limit)) played.same) ended

  pub tells_so : (old new : Option (List ℕ)) → StandsForRun start (told report) → Appends old new report.output.items → TellsFlatRun limit start old new end report.steps
  tells_so old new stands written =
      tells limit start report old new end stands (ap (λ e. own_ending (Some e)) is ∙ either report.end Limit) written few_steps all_steps
