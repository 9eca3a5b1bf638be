-- Runs of the machine put together and taken apart.
use Rattle.std.proofs.Common.{◌≡◌, ℕ, ◌+◌, ◌<◌, List, [], ◌∷◌, ◌++◌, length, take, get_or, refl, sym, ap, subst}
use Rattle.std.proofs.lemmas.List.{take_more}
use Rattle.machine_core.specs.declared.event.Event.{Event}
use Rattle.machine_core.specs.declared.event.Reply.{Reply}
use Rattle.machine_core.specs.Applying.{Applies, CutRun, Runs, LeadsTo}
use Rattle.machine_core.specs.Machine.{CoreValue}

module _ {S : Type 0} (held : S → List ℕ) (honest : Type 0) (failures : S → ℕ) where
  -- no event changes nothing
  pub runs_none : (core : CoreValue S) → Runs held honest failures [] [] core core
  unfolding Runs
  runs_none core = refl

  -- a run, and then another
  pub runs_on : (first second : List Event) (replies replies' : List Reply) (old between new : CoreValue S) → Runs held honest failures first replies old between
      → Runs held honest failures second replies' between new → Runs held honest failures (first ++ second) (replies ++ replies') old new
  unfolding Runs
  runs_on [] second [] replies' old between new a b = subst (λ c. Runs held honest failures second replies' c new) a b
  runs_on [] second (r ∷ rs) replies' old between new a b = absurd a
  runs_on (e ∷ es) second [] replies' old between new a b = absurd a
  runs_on (e ∷ es) second (r ∷ rs) replies' old between new a b = (a.0, (a.1.0, runs_on es second rs replies' a.0 between new a.1.1 b))

  -- a run of one event
  pub runs_one : (event : Event) (old new : CoreValue S) (reply : Reply) → Applies held honest failures event old new reply → Runs held honest failures (event ∷ []) (reply ∷ []) old new
  unfolding Runs
  runs_one event old new reply applies = (new, (applies, refl))

  -- a run, and then one more event
  pub runs_more : (events : List Event) (replies : List Reply) (old between new : CoreValue S) (event : Event) (reply : Reply) → Runs held honest failures events replies old between
      → Applies held honest failures event between new reply → Runs held honest failures (events ++ event ∷ []) (replies ++ reply ∷ []) old new
  runs_more events replies old between new event reply a applies =
      runs_on events (event ∷ []) replies (reply ∷ []) old between new a (runs_one event between new reply applies)

  -- the same of events that stand in a list
  pub runs_next : (events : List Event) (i : ℕ) (event : Event) (replies : List Reply) (old between new : CoreValue S) (reply : Reply) → i < length events
      → Runs held honest failures (take i events) replies old between → Applies held honest failures (get_or events i event) between new reply
      → Runs held honest failures (take (i + 1) events) (replies ++ reply ∷ []) old new
  runs_next events i event replies old between new reply small run applies =
      subst (λ l. Runs held honest failures l (replies ++ reply ∷ []) old new) (sym (take_more events i event small))
      (runs_more (take i events) replies old between new (get_or events i event) reply run applies)

  -- each prefix of a run is a run, and so is what is left
  pub run_cut : (first second : List Event) (replies : List Reply) (old new : CoreValue S) → Runs held honest failures (first ++ second) replies old new → CutRun held honest failures first second replies old new
  unfolding Runs
  run_cut [] second replies old new run = record { replies-first = []; replies-second = replies; between = old; joined = refl; before = refl; after = run }
  run_cut (e ∷ es) second [] old new run = absurd run
  run_cut (e ∷ es) second (r ∷ rs) old new run =
      let rest = run_cut es second rs run.0 new run.1.1 in
      record {
        replies-first = r ∷ rest.replies-first;
        replies-second = rest.replies-second;
        between = rest.between;
        joined = ap (λ l. r ∷ l) rest.joined;
        before = (run.0, (run.1.0, rest.before));
        after = rest.after;
      }

  -- a machine is reached from itself
  pub reaches_same : (core : CoreValue S) → LeadsTo held honest failures core core
  reaches_same core = record { events = []; replies = []; runs = runs_none core }

  -- one more event reaches
  pub reaches_more : (old between new : CoreValue S) (event : Event) (reply : Reply) → LeadsTo held honest failures old between → Applies held honest failures event between new reply
      → LeadsTo held honest failures old new
  reaches_more old between new event reply reached applies = record {
    events = reached.events ++ event ∷ [];
    replies = reached.replies ++ reply ∷ [];
    runs = runs_more reached.events reached.replies old between new event reply reached.runs applies;
  }

  -- what is reached from what is reached is reached
  pub reaches_on : (old between new : CoreValue S) → LeadsTo held honest failures old between → LeadsTo held honest failures between new → LeadsTo held honest failures old new
  reaches_on old between new first second = record {
    events = first.events ++ second.events;
    replies = first.replies ++ second.replies;
    runs = runs_on first.events second.events first.replies second.replies old between new first.runs second.runs;
  }
