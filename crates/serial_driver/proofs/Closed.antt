-- A run that is closed, one process after another.
use Rattle.std.proofs.Common.{◌≡◌, ◌≢◌, ℕ, ◌+◌, ◌≤◌, Bool, true, false, List, [], ◌∷◌, ◌++◌, Option, slice_get, refl, sym, ◌∙◌, arith, subst, add-one}
use Rattle.std.specs.Prelude.{if◌then◌else◌}
use Rattle.flat_machine.specs.declared.end.KillCause.TheVariants as cause
use Rattle.machine_core.specs.declared.event.Event.TheVariants.{Kill, Purge}
use Rattle.machine_core.specs.declared.event.Reply.{Reply}
use Rattle.machine_core.specs.Applying.{Applies, Runs}
use Rattle.machine_core.proofs.ApplyingLaws.{runs_none, runs_one, runs_on, runs_more}
use Rattle.machine_core.specs.Machine.{CoreValue}
use Rattle.serial_driver.specs.Closing.{goes_on, kill_of, closing_below}
use Rattle.serial_driver.specs.Limit.{ClosesBelow, EndsOne}
use Rattle.serial_driver.proofs.Endings.{kill_others, purge_others}
use Rattle.space_core.specs.StandsFor.{SpaceValue}

module _ {S : Type 0} where
  killed : (number : ℕ) (process : Option (SpaceValue S)) → true ≡ goes_on process → kill_of number process ≡ Kill number cause.Limit ∷ []
  killed number process on = by_test (goes_on process) on
    where
      by_test : (b : Bool) → true ≡ b → (if b then Kill number cause.Limit ∷ [] else []) ≡ Kill number cause.Limit ∷ []
      by_test true h = refl
      by_test false h = cc

  not_killed : (number : ℕ) (process : Option (SpaceValue S)) → false ≡ goes_on process → kill_of number process ≡ []
  not_killed number process off = by_test (goes_on process) off
    where
      by_test : (b : Bool) → false ≡ b → (if b then Kill number cause.Limit ∷ [] else []) ≡ []
      by_test false h = refl
      by_test true h = cc

module _ {S : Type 0} (held : S → List ℕ) (honest : Type 0) (failures : S → ℕ) where
  -- a process that does not go on is left alone
  pub ends_none : (core : CoreValue S) (number : ℕ) → false ≡ goes_on (slice_get core.processes number) → EndsOne held honest failures number core core
  ends_none core number off = record {
    replies = [];
    runs = subst (λ l. Runs held honest failures l [] core core) (sym (not_killed number (slice_get core.processes number) off)) (runs_none held honest failures core);
    others = λ other apart. refl;
  }

  -- one that goes on is ended
  pub ends_kill : (old new : CoreValue S) (number : ℕ) (reply : Reply) → true ≡ goes_on (slice_get old.processes number) → Applies held honest failures (Kill number cause.Limit) old new reply
      → EndsOne held honest failures number old new
  ends_kill old new number reply on applies = record {
    replies = reply ∷ [];
    runs = subst (λ l. Runs held honest failures l (reply ∷ []) old new) (sym (killed number (slice_get old.processes number) on)) (runs_one held honest failures _ old new reply applies);
    others = kill_others held honest failures old new number reply cause.Limit applies;
  }

  -- at first nothing is closed
  pub closes_none : (core : CoreValue S) → ClosesBelow held honest failures 0 core core
  unfolding closing_below
  closes_none core = record { replies = []; runs = runs_none held honest failures core }

  -- one more process is closed
  pub closes_more : (old late between new : CoreValue S) (number : ℕ) (reply : Reply) → ClosesBelow held honest failures number old late → slice_get late.processes number ≡ slice_get old.processes number
      → EndsOne held honest failures number late between → Applies held honest failures (Purge number) between new reply → ClosesBelow held honest failures (number + 1) old new
  unfolding closing_below
  closes_more old late between new number reply closes same ends applies =
      let kills : Runs held honest failures (kill_of number (slice_get old.processes number)) ends.replies late between =
      subst (λ p. Runs held honest failures (kill_of number p) ends.replies late between) same ends.runs in
      rw add-one (record {
        replies = closes.replies ++ (ends.replies ++ reply ∷ []);
        runs = runs_on held honest failures _ _ closes.replies _ old late new closes.runs (runs_more held honest failures _ ends.replies late between new (Purge number) reply kills applies);
      })

  -- and no process behind it has changed
  pub same_behind : (old late between new : CoreValue S) (number : ℕ) (reply : Reply) → ((other : ℕ) → number ≤ other → slice_get late.processes other ≡ slice_get old.processes other)
      → EndsOne held honest failures number late between → Applies held honest failures (Purge number) between new reply
      → (other : ℕ) → number + 1 ≤ other → slice_get new.processes other ≡ slice_get old.processes other
  same_behind old late between new number reply same ends applies other behind =
      let apart : other ≢ number = λ is. absurd (omega (arith, behind, is)) in
      purge_others held honest failures between new number reply applies other apart ∙ ends.others other apart ∙ same other (omega (arith, behind))
