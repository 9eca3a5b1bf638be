-- Runs up to so many steps of a process.
use Rattle.std.proofs.Common.{◌≡◌, ℕ, suc, ◌+◌, ◌-◌, ◌*◌, ◌<◌, ◌≤◌, Bool, true, false, All, List, [], ◌∷◌, length, Option, None, slice_get, refl, sym, ap, ◌∙◌, arith, subst}
use Rattle.std.proofs.lemmas.List.Elements.{All-head, All-tail}
use Rattle.flat_machine.specs.declared.end.KillCause.TheVariants as cause
use Rattle.machine_core.specs.Applying.{Applies, LeadsTo}
use Rattle.machine_core.proofs.ApplyingLaws.{reaches_more}
use Rattle.machine_core.specs.Machine.{CoreValue}
use Rattle.machine_core.specs.declared.event.Event.{Event}
use Rattle.machine_core.specs.declared.event.Event.TheVariants.{Kill}
use Rattle.machine_core.specs.declared.event.Reply.{Reply}
use Rattle.serial_driver.specs.Closing.{is_limit_kill}
use Rattle.serial_driver.specs.Endings.{HasEnded}
use Rattle.serial_driver.specs.Limit.{ComeInTurn, PlaysOn, PlaysWith}
use Rattle.serial_driver.specs.Owing.{Duty, duty_with, no_duty}
use Rattle.serial_driver.specs.Patience.{IsPatient, tried_after, tries_per_frame}
use Rattle.serial_driver.specs.StepsLimit.{EndsStuck, GoesOn, Over, Reached, AllEnded, GivenUp, PlaysSome, PlaysToSteps, limited_at, most_idle, steps_at}
use Rattle.serial_driver.specs.declared.patience.Patience.{Patience}
use Rattle.serial_driver.proofs.Endings.{kill_ends}
use Rattle.serial_driver.proofs.InTurn.{in_turn_runs}
use Rattle.serial_driver.proofs.Limited.{plays_more, plays_none}
use Rattle.serial_driver.proofs.Moves.{Moves, event_moves, kill_moves, moves_none, moves_on}
use Rattle.serial_driver.proofs.Reached.{reaches_by}

module _ {S : Type 0} (held : S → List ℕ) (honest : Type 0) (failures : S → ℕ) where
  run_moves : (duty : Duty) (events : List Event) (replies : List Reply) (old new : CoreValue S) → ComeInTurn held honest failures duty events replies old new
      → All (λ event. is_limit_kill event ≡ false) events → (number : ℕ) → Moves (length events) (slice_get old.processes number) (slice_get new.processes number)
  unfolding ComeInTurn
  run_moves duty [] [] old new comes each number = moves_none 0 _ _ (ap (λ (c : CoreValue S). slice_get c.processes number) comes)
  run_moves duty [] (r ∷ rs) old new comes each number = absurd comes
  run_moves duty (e ∷ es) [] old new comes each number = absurd comes
  run_moves duty (e ∷ es) (r ∷ rs) old new comes each number =
      moves_on 1 (length es) (suc (length es)) _ _ _ (omega arith)
      (event_moves held honest failures e duty.turn old comes.0 r (All-head (λ event. is_limit_kill event ≡ false) e es each) comes.1.1.0 comes.1.0 number)
      (run_moves (duty_with e r duty) es rs comes.0 new comes.1.1.1 (All-tail (λ event. is_limit_kill event ≡ false) e es each) number)

  -- so many events of a run add at most as many steps to a process, and end none for a limit
  pub played_moves : (most : ℕ) (tried : ℕ → ℕ) (duty : Duty) (spent : Option ℕ) (count : ℕ) (old new : CoreValue S) → PlaysOn held honest failures most tried duty spent count old new
      → (number : ℕ) → Moves count (slice_get old.processes number) (slice_get new.processes number)
  played_moves most tried duty spent count old new plays number =
      subst (λ n. Moves n (slice_get old.processes number) (slice_get new.processes number)) plays.many
      (run_moves duty plays.events plays.replies old new plays.in_turn plays.unlimited number)

  pub played_reaches : (most : ℕ) (tried : ℕ → ℕ) (duty : Duty) (spent : Option ℕ) (count : ℕ) (old new : CoreValue S) → PlaysOn held honest failures most tried duty spent count old new
      → LeadsTo held honest failures old new
  played_reaches most tried duty spent count old new plays =
      reaches_by held honest failures plays.events plays.replies old new (in_turn_runs held honest failures duty plays.events plays.replies old new plays.in_turn)

  -- ---- a run up to so many steps of a process

  -- so many events were played, and so many steps are done; so many tries without a step may follow, of all that may be
  pub record Playing (slice process limit idle done : ℕ) (first now : CoreValue S) (patience : Patience) (duty : Duty) : Type 0 where
    pub count : ℕ
    pub plays : PlaysWith held honest failures (tries_per_frame * first.pager.pager.size) (λ _. 0) (no_duty slice) None count first now patience duty
    pub long : most_idle ≤ count + idle
    pub counted : done ≡ steps_at process now
    pub within : steps_at process first ≤ limit → done ≤ limit

  pub playing_none : (slice process limit done : ℕ) (core : CoreValue S) (patience : Patience) (duty : Duty) → IsPatient (tries_per_frame * core.pager.pager.size) (λ _. 0) patience
      → patience.spent ≡ None → duty ≡ no_duty slice → done ≡ steps_at process core → Playing slice process limit most_idle done core core patience duty
  playing_none slice process limit done core patience duty patient unspent free counted = record {
    count = 0;
    plays = plays_none held honest failures _ (λ _. 0) (no_duty slice) duty None core patience patient unspent free;
    long = omega arith;
    counted = counted;
    within = λ low. omega (arith, low, counted);
  }

  module _ (slice process limit idle done : ℕ) (first now new : CoreValue S) (patience patience' : Patience) (duty duty' : Duty) (playing : Playing slice process limit idle done first now patience duty)
      (over : Bool)
      (goes : GoesOn held honest failures (tries_per_frame * first.pager.pager.size) (λ number. tried_after number playing.plays.plays.events playing.plays.plays.replies 0) duty patience.spent
      (limit - done) over now new patience' duty') (below : done < limit) where
    together : PlaysWith held honest failures (tries_per_frame * first.pager.pager.size) (λ _. 0) (no_duty slice) None (playing.count + goes.count) first new patience' duty'
    together =
        plays_more held honest failures _ (λ _. 0) (no_duty slice) duty duty' None playing.count goes.count (playing.count + goes.count) first now new patience patience' playing.plays goes.plays refl

    moved : Moves goes.count (slice_get now.processes process) (slice_get new.processes process)
    moved = played_moves _ _ _ _ goes.count now new goes.plays.plays process

    pub grown : done ≤ steps_at process new
    grown = let least = moved.least in let counted = playing.counted in omega (arith, least, counted)

    no_more : steps_at process new ≤ limit
    no_more = let most = moved.most in let counted = playing.counted in let within = goes.within in omega (arith, most, counted, within, below)

    pub playing_more : (idle' next : ℕ) → over ≡ false → next ≡ steps_at process new → idle ≤ idle' + 1 → Playing slice process limit idle' next first new patience' duty'
    playing_more idle' next on counted left =
        let long = playing.long in
        let all = goes.all on in
        let most = no_more in
        record {
          count = playing.count + goes.count;
          plays = together;
          long = omega (arith, long, all, left, below);
          counted = counted;
          within = λ low. omega (arith, counted, most);
        }

    pub playing_ended : over ≡ true → PlaysSome held honest failures slice process limit false first new
    playing_ended ended = record {
      count = playing.count + goes.count;
      plays = together.plays;
      stuck_late = λ stuck. absurd (cc);
      over = λ on. AllEnded refl (goes.ended ended);
      within = λ low. no_more;
    }

  -- ---- and then the process is given up, if it was stuck

  short_over : (process limit count : ℕ) (played new : CoreValue S) → Over held honest failures process limit count played new → steps_at process new < limit → HasEnded new process
  short_over process limit count played new (Reached same full) less = absurd (omega (arith, full, less))
  short_over process limit count played new (AllEnded same ended) less = ended process
  short_over process limit count played new (GivenUp late reply applies) less = kill_ends held honest failures played new process reply cause.NoSwap applies

  not_stuck : (slice process limit : ℕ) (old new : CoreValue S) → PlaysSome held honest failures slice process limit false old new → PlaysToSteps held honest failures slice process limit old new
  not_stuck slice process limit old new some = record {
    count = some.count;
    played = new;
    plays = some.plays;
    over = some.over refl;
    within = some.within;
    short = short_over process limit some.count new new (some.over refl);
  }

  killed : (process : ℕ) (old new : CoreValue S) (reply : Reply) → Applies held honest failures (Kill process cause.NoSwap) old new reply → (number : ℕ) → Moves 0 (slice_get old.processes number) (slice_get new.processes number)
  killed process old new reply applies number = kill_moves held honest failures process cause.NoSwap old new reply refl applies number

  gives_up : (slice process limit : ℕ) (old played new : CoreValue S) (reply : Reply) → PlaysSome held honest failures slice process limit true old played
      → Applies held honest failures (Kill process cause.NoSwap) played new reply → PlaysToSteps held honest failures slice process limit old new
  gives_up slice process limit old played new reply some applies =
      let moves = killed process played new reply applies process in
      let over : Over held honest failures process limit some.count played new = GivenUp (some.stuck_late refl) reply applies in
      record {
        count = some.count;
        played = played;
        plays = some.plays;
        over = over;
        within = λ low. let most = moves.most in let within = some.within low in omega (arith, most, within);
        short = short_over process limit some.count played new over;
      }

  pub plays_steps : (slice process limit : ℕ) (stuck : Bool) (old played new : CoreValue S) → PlaysSome held honest failures slice process limit stuck old played
      → EndsStuck held honest failures stuck process played new → PlaysToSteps held honest failures slice process limit old new
  plays_steps slice process limit true old played new some ends = gives_up slice process limit old played new ends.0 some ends.1
  plays_steps slice process limit false old played new some ends =
      subst (λ (c : CoreValue S). PlaysToSteps held honest failures slice process limit old c) (sym ends) (not_stuck slice process limit old played some)

  same_limited : (number : ℕ) (old new : CoreValue S) → new ≡ old → limited_at number old ≡ false → limited_at number new ≡ false
  same_limited number old new same on = ap (limited_at number) same ∙ on

  -- none is ended for the limit
  after_over : (process limit count number : ℕ) (played new : CoreValue S) → Over held honest failures process limit count played new → limited_at number played ≡ false → limited_at number new ≡ false
  after_over process limit count number played new (Reached same full) on = same_limited number played new same on
  after_over process limit count number played new (AllEnded same ended) on = same_limited number played new same on
  after_over process limit count number played new (GivenUp late reply applies) on = (killed process played new reply applies number).unlimited on

  pub steps_unlimited : (slice process limit : ℕ) (old new : CoreValue S) → PlaysToSteps held honest failures slice process limit old new → (number : ℕ) → limited_at number old ≡ false → limited_at number new ≡ false
  steps_unlimited slice process limit old new plays number on =
      after_over process limit plays.count number plays.played new plays.over ((played_moves _ _ _ _ plays.count old plays.played plays.plays number).unlimited on)

  over_reaches : (process limit count : ℕ) (old played new : CoreValue S) → LeadsTo held honest failures old played → Over held honest failures process limit count played new → LeadsTo held honest failures old new
  over_reaches process limit count old played new reached (Reached same full) = subst (λ (c : CoreValue S). LeadsTo held honest failures old c) (sym same) reached
  over_reaches process limit count old played new reached (AllEnded same ended) = subst (λ (c : CoreValue S). LeadsTo held honest failures old c) (sym same) reached
  over_reaches process limit count old played new reached (GivenUp late reply applies) = reaches_more held honest failures old played new (Kill process cause.NoSwap) reply reached applies

  pub steps_reach : (slice process limit : ℕ) (old new : CoreValue S) → PlaysToSteps held honest failures slice process limit old new → LeadsTo held honest failures old new
  steps_reach slice process limit old new plays =
      over_reaches process limit plays.count old plays.played new (played_reaches _ _ _ _ plays.count old plays.played plays.plays) plays.over
