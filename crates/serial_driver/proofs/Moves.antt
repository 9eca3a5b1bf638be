-- An event of a run adds at most one step to a process, and ends none for a limit that is not ended so by name.
use Rattle.std.proofs.Common.{◌≡◌, ℕ, ◌+◌, ◌≤◌, false, List, length, Option, Some, None, slice_get, replicate, inl, inr, refl, sym, ap, ◌∙◌, arith, subst}
use Rattle.std.specs.Prelude.{slice_set}
use Rattle.std.specs.Option.{option_or}
use Rattle.std.proofs.lemmas.Bool.Decides.{eqb_tells}
use Rattle.std.proofs.Math.ListN.{length-replicate, length-append}
use Rattle.clock_policy.specs.declared.answer.Bit.{Bit}
use Rattle.clock_policy.specs.declared.answer.Bit.TheVariants.{Zero, One, Gone}
use Rattle.clock_policy.specs.declared.answer.Verdict.{Verdict}
use Rattle.clock_policy.specs.declared.answer.Verdict.TheVariants as verdict
use Rattle.flat_machine.specs.declared.end.End.{End}
use Rattle.flat_machine.specs.declared.end.End.TheVariants.{Killed}
use Rattle.flat_machine.specs.declared.end.KillCause.{KillCause}
use Rattle.flat_machine.specs.Schedule.{written_out}
use Rattle.machine_core.specs.Applying.{Applies}
use Rattle.machine_core.specs.CollectEvent.{CollectsTo, not_yet, freed, dirty, no_slot}
use Rattle.machine_core.specs.Machine.{CoreValue}
use Rattle.machine_core.specs.MachineRun.{RefusesEvent, StepsHart}
use Rattle.machine_core.proofs.TotalLaws.{get_set_same, get_set_other}
use Rattle.machine_core.specs.declared.error.EventRefusal.{EventRefusal}
use Rattle.machine_core.specs.declared.event.Event.{Event}
use Rattle.machine_core.specs.declared.event.Event.TheVariants.{Step, Notice, Sweep, Collect, Saved, PageIn, Kill, Purge, Clean, Copy, Cleaned}
use Rattle.machine_core.specs.declared.event.Reply.{Reply}
use Rattle.machine_sides.specs.Sweeping.{ReadsBit, HeedsVerdict}
use Rattle.serial_driver.specs.Closing.{is_limit, is_limit_kill}
use Rattle.serial_driver.specs.StepsLimit.{is_limit_end, is_limited, steps_of}
use Rattle.serial_driver.specs.Turning.{Turn, IsInTurn}
use Rattle.serial_driver.proofs.UnlimitedRuns.{run_unlimited}
use Rattle.space_core.specs.Slicing.{shown_process}
use Rattle.space_core.specs.StandsFor.{SpaceValue}

-- the machine's ending, or the one that was there
killed_end : (own : Option End) (cause : KillCause) → is_limit cause ≡ false → is_limit_end own ≡ false → is_limit_end (option_or own (Some (Killed cause))) ≡ false
killed_end None cause unlimited on = unlimited
killed_end (Some end) cause unlimited on = on

module _ {S : Type 0} where
  -- what so many events make of a process
  pub record Moves (count : ℕ) (old new : Option (SpaceValue S)) : Type 0 where
    pub least : steps_of old ≤ steps_of new
    pub most : steps_of new ≤ steps_of old + count
    pub unlimited : is_limited old ≡ false → is_limited new ≡ false

  pub moves_none : (count : ℕ) (old new : Option (SpaceValue S)) → new ≡ old → Moves count old new
  moves_none count old new is =
      let e : steps_of new ≡ steps_of old = ap steps_of is in
      record { least = omega (arith, e); most = omega (arith, e); unlimited = λ on. ap is_limited is ∙ on }

  pub moves_on : (first second total : ℕ) (old between new : Option (SpaceValue S)) → first + second ≡ total → Moves first old between → Moves second between new → Moves total old new
  moves_on first second total old between new sum a b =
      let least = a.least in let most = a.most in let later = b.least in let last = b.most in
      record { least = omega (arith, least, later); most = omega (arith, most, last, sum); unlimited = λ on. b.unlimited (a.unlimited on) }

  -- the steps and the ending stay
  record IsQuiet (old new : SpaceValue S) : Type 0 where
    pub schedule : new.schedule ≡ old.schedule
    pub ending : new.running.ending ≡ old.running.ending

  quiet_beside : (old new : SpaceValue S) → new ≡ record old { memory = new.memory } → IsQuiet old new
  quiet_beside old new is = record { schedule = ap (λ (s : SpaceValue S). s.schedule) is; ending = ap (λ (s : SpaceValue S). s.running.ending) is }

  quiet_same : (old new : SpaceValue S) → new ≡ old → IsQuiet old new
  quiet_same old new is = record { schedule = ap (λ (s : SpaceValue S). s.schedule) is; ending = ap (λ (s : SpaceValue S). s.running.ending) is }

  quiet_then : (old between new : SpaceValue S) → IsQuiet old between → IsQuiet between new → IsQuiet old new
  quiet_then old between new a b = record { schedule = b.schedule ∙ a.schedule; ending = b.ending ∙ a.ending }

  moves_quiet : (count : ℕ) (old new : SpaceValue S) → IsQuiet old new → Moves count (Some old) (Some new)
  moves_quiet count old new quiet =
      let e : length (written_out new.schedule) ≡ length (written_out old.schedule) = ap (λ s. length (written_out s)) quiet.schedule in
      record { least = omega (arith, e); most = omega (arith, e); unlimited = λ on. ap is_limit_end quiet.ending ∙ on }

  -- one process changes, and no other
  one_moves : (count : ℕ) (old new : List (SpaceValue S)) (p : ℕ) (q q' : SpaceValue S) → slice_get old p ≡ Some q → new ≡ slice_set old p q' → Moves count (Some q) (Some q')
      → (number : ℕ) → Moves count (slice_get old number) (slice_get new number)
  one_moves count old new p q q' found is moves number =
      elim (eqb_tells number p) [
        | inl same ↦
            let before : Some q ≡ slice_get old number = sym (ap (slice_get old) same.1 ∙ found) in
            let now : Some q' ≡ slice_get new number = sym (ap (slice_get new) same.1 ∙ ap (λ l. slice_get l p) is ∙ get_set_same old p q q' found) in
            subst (λ o. Moves count o (slice_get new number)) before (subst (λ o. Moves count (Some q) o) now moves)
        | inr apart ↦ moves_none count _ _ (ap (λ l. slice_get l number) is ∙ get_set_other old p number q' apart.1)
      ]

  one_quiet : (old new : List (SpaceValue S)) (p : ℕ) (q q' : SpaceValue S) → slice_get old p ≡ Some q → new ≡ slice_set old p q' → IsQuiet q q'
      → (number : ℕ) → Moves 1 (slice_get old number) (slice_get new number)
  one_quiet old new p q q' found is quiet number = one_moves 1 old new p q q' found is (moves_quiet 1 q q' quiet) number

  refused_moves : (count : ℕ) (reason : Option EventRefusal) (old new : CoreValue S) (reply : Reply) → RefusesEvent reason old new reply
      → (number : ℕ) → Moves count (slice_get old.processes number) (slice_get new.processes number)
  refused_moves count reason old new reply refuses number = moves_none count _ _ (ap (λ (c : CoreValue S). slice_get c.processes number) refuses.stays)

  -- a slice of one instruction
  step_moves : (held : S → List ℕ) (honest : Type 0) (p hart : ℕ) (old new : CoreValue S) (reply : Reply) → StepsHart held honest p hart old new reply
      → (number : ℕ) → Moves 1 (slice_get old.processes number) (slice_get new.processes number)
  step_moves held honest p hart old new reply steps number =
      let one = steps.one in
      let slice = one.how.slice in
      let within = slice.within in
      let many : length (written_out one.process'.schedule) ≡ length (written_out one.process.schedule) + one.how.ran =
      ap (λ (l : List ℕ). length l) slice.recorded ∙ length-append (written_out one.process.schedule) (replicate one.how.ran hart)
      ∙ ap (λ n. length (written_out one.process.schedule) + n) (length-replicate one.how.ran hart) in
      one_moves 1 old.processes new.processes p one.process one.process' one.found one.is
      (record {
        least = omega (arith, many);
        most = omega (arith, many, within);
        unlimited = λ on. run_unlimited (replicate one.how.ran hart) (shown_process held one.process) (shown_process held one.process') on slice.ran_is;
      }) number

  read_quiet : (bit : Bit) (vpn : ℕ) (old new : SpaceValue S) → ReadsBit bit vpn old new → IsQuiet old new
  read_quiet Gone vpn old new h = quiet_same old new h
  read_quiet Zero vpn old new h = quiet_beside old new h.stays
  read_quiet One vpn old new h = quiet_beside old new h.stays

  heeded_quiet : (v : Verdict) (vpn : ℕ) (old new : SpaceValue S) → HeedsVerdict v vpn old new → IsQuiet old new
  heeded_quiet verdict.GoOn vpn old new h = quiet_same old new h
  heeded_quiet (verdict.Victim key) vpn old new h = quiet_beside old new h.stays

  collected_quiet : (vpn : ℕ) (old new : CoreValue S) (process process' : SpaceValue S) (answer : Reply) → CollectsTo vpn old new process process' answer → IsQuiet process process'
  collected_quiet vpn old new process process' answer (not_yet how jobs told) = quiet_same process process' (ap (λ (p : SpaceValue S). p) how.stays.process_stays)
  collected_quiet vpn old new process process' answer (freed how jobs told) = quiet_beside process process' how.drops.stays
  collected_quiet vpn old new process process' answer (dirty job how jobs told) = quiet_beside process process' how.saving.stays
  collected_quiet vpn old new process process' answer (no_slot how jobs told) = quiet_beside process process' how.returns.mapped.stays

module _ {S : Type 0} (held : S → List ℕ) (honest : Type 0) (failures : S → ℕ) where
  -- the machine ends a process, for no limit
  pub kill_moves : (p : ℕ) (cause : KillCause) (old new : CoreValue S) (reply : Reply) → is_limit cause ≡ false → Applies held honest failures (Kill p cause) old new reply
      → (number : ℕ) → Moves 0 (slice_get old.processes number) (slice_get new.processes number)
  kill_moves p cause old new reply unlimited applies number =
      elim applies.served [
        | inl refuses ↦ refused_moves 0 _ old new reply refuses number
        | inr kills ↦
            let one = kills.one in
            let e : length (written_out one.process'.schedule) ≡ length (written_out one.process.schedule) = ap (λ (s : SpaceValue S). length (written_out s.schedule)) one.how in
            one_moves 0 old.processes new.processes p one.process one.process' one.found one.is
            (record {
              least = omega (arith, e);
              most = omega (arith, e);
              unlimited = λ on. ap (λ (s : SpaceValue S). is_limit_end s.running.ending) one.how ∙ killed_end one.process.running.ending cause unlimited on;
            }) number
      ]

  pub event_moves : (event : Event) (turn : Turn) (old new : CoreValue S) (reply : Reply) → is_limit_kill event ≡ false → IsInTurn honest old turn event
      → Applies held honest failures event old new reply → (number : ℕ) → Moves 1 (slice_get old.processes number) (slice_get new.processes number)
  event_moves (Step p hart) turn old new reply unlimited in_turn applies number =
      elim applies.served [ inl refuses ↦ refused_moves 1 _ old new reply refuses number | inr steps ↦ step_moves held honest p hart old new reply steps number ]
  event_moves (Notice p hart) turn old new reply unlimited in_turn applies number =
      elim applies.served [
        | inl refuses ↦ refused_moves 1 _ old new reply refuses number
        | inr notices ↦
            let one = notices.one in
            one_quiet old.processes new.processes p one.process one.process' one.found one.is
            (record { schedule = ap (λ (s : SpaceValue S). s.schedule) one.how; ending = ap (λ (s : SpaceValue S). s.running.ending) one.how }) number
      ]
  event_moves Sweep turn old new reply unlimited in_turn applies number =
      elim applies.served [
        | inl refuses ↦ refused_moves 1 _ old new reply refuses number
        | inr sweeps ↦
            let first = read_quiet sweeps.bit sweeps.key.vpn sweeps.process sweeps.answers.between sweeps.answers.read in
            let second = heeded_quiet sweeps.verdict sweeps.key.vpn sweeps.answers.between sweeps.process' sweeps.answers.heeded in
            one_quiet old.processes new.processes sweeps.key.process sweeps.process sweeps.process' sweeps.found sweeps.processes
            (quiet_then sweeps.process sweeps.answers.between sweeps.process' first second) number
      ]
  event_moves (Collect key) turn old new reply unlimited in_turn applies number =
      elim applies.served [
        | inl refuses ↦ refused_moves 1 _ old new reply refuses number
        | inr once ↦ one_quiet old.processes new.processes key.process once.process once.process' once.found once.processes
            (collected_quiet key.vpn old new once.process once.process' reply once.comes_to) number
      ]
  event_moves (Saved key) turn old new reply unlimited in_turn applies number =
      elim applies.served [
        | inl refuses ↦ refused_moves 1 _ old new reply refuses number
        | inr once ↦ one_quiet old.processes new.processes key.process once.process once.process' once.found once.processes
            (elim once.ends [
              | inl passed ↦ quiet_beside once.process once.process' passed.0.settles.stays
              | inr back ↦ quiet_then once.process back.0.between once.process' (quiet_beside once.process back.0.between back.0.settles.stays)
                  (quiet_beside back.0.between once.process' back.0.returns.mapped.stays)
            ]) number
      ]
  event_moves (PageIn key) turn old new reply unlimited in_turn applies number =
      elim applies.served [
        | inl refuses ↦ refused_moves 1 _ old new reply refuses number
        | inr once ↦ one_quiet old.processes new.processes key.process once.process once.process' once.found once.processes
            (elim once.how [
              | inl comes ↦ quiet_beside once.process once.process' comes.loads.stays
              | inr not ↦ elim not [
                | inl back ↦ quiet_beside once.process once.process' back.rest.stays
                | inr unlisted ↦ quiet_same once.process once.process' (ap (λ (p : SpaceValue S). p) unlisted.process_is)
              ]
            ]) number
      ]
  event_moves (Kill p cause) turn old new reply unlimited in_turn applies number = moves_on 0 1 1 _ _ _ refl (kill_moves p cause old new reply unlimited applies number) (moves_none 1 _ _ refl)
  event_moves (Purge p) turn old new reply unlimited in_turn applies number =
      elim applies.served [
        | inl refuses ↦ refused_moves 1 _ old new reply refuses number
        | inr once ↦ one_quiet old.processes new.processes p once.process once.process' once.found once.processes
            (record { schedule = ap (λ (s : SpaceValue S). s.schedule) once.purges.is; ending = ap (λ (s : SpaceValue S). s.running.ending) once.purges.is }) number
      ]
  event_moves (Clean key) turn old new reply unlimited in_turn applies number = absurd in_turn
  event_moves (Copy key) turn old new reply unlimited in_turn applies number = absurd in_turn
  event_moves (Cleaned key) turn old new reply unlimited in_turn applies number = absurd in_turn
