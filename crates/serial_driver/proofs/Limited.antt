-- Runs of so many events, one after another, and how a run is closed.
use Rattle.std.proofs.Common.{◌≡◌, ℕ, zero, suc, ◌+◌, ◌≤◌, max, false, List, [], ◌∷◌, ◌++◌, length, Option, Some, None, All, replicate, refl, sym, ap, ◌∙◌, arith, subst}
use Rattle.std.proofs.lemmas.List.Elements.{All-append, All-nil, All-cons}
use Rattle.std.proofs.Math.ListN.{length-replicate, length-append}
use Rattle.clock_policy.specs.declared.key.Key.{Key}
use Rattle.machine_core.specs.declared.event.Event.{Event}
use Rattle.machine_core.specs.declared.event.Event.TheVariants.{Step, Saved}
use Rattle.machine_core.specs.declared.event.Reply.{Reply}
use Rattle.machine_core.specs.Applying.{Applies, Runs, LeadsTo}
use Rattle.machine_core.proofs.ApplyingLaws.{reaches_same}
use Rattle.machine_core.specs.Machine.{CoreValue}
use Rattle.machine_core.specs.ManySteps.{steps_of, replies_of}
use Rattle.serial_driver.specs.Closing.{is_limit_kill}
use Rattle.serial_driver.specs.Limit.{ComeInTurn, DoesSave, EndsByLimit, PlaysWith}
use Rattle.serial_driver.specs.Owing.{Duty, Pays, ArePaid, duty_with, duty_after, next_owed, no_duty}
use Rattle.serial_driver.specs.Turning.{IsInTurn}
use Rattle.serial_driver.specs.Patience.{IsPatient, spent_after, spent_with, tried_after, tried_with}
use Rattle.serial_driver.specs.declared.patience.Patience.{Patience}
use Rattle.serial_driver.proofs.InTurn.{in_turn_none, in_turn_on, in_turn_one, in_turn_runs, steps_in_turn}
use Rattle.serial_driver.proofs.Owed.{duty_on, paid_on, steps_many, steps_paid}
use Rattle.serial_driver.proofs.Tried.{after_on, patient_same, spent_on}
use Rattle.serial_driver.proofs.Reached.{reaches_one, reaches_by, reaches_last}

-- an event is none that ends a process for the limit
abbrev Unlimited : Event → Type 0
Unlimited event = is_limit_kill event ≡ false

steps_unlimited : (process hart count : ℕ) → All Unlimited (replicate count (Step process hart))
steps_unlimited process hart zero = All-nil _
steps_unlimited process hart (suc count) = All-cons Unlimited (Step process hart) _ refl (steps_unlimited process hart count)

steps_length : (process hart ran : ℕ) (last : Option Reply) → length (steps_of process hart ran last) ≡ steps_many last ran
steps_length process hart ran None = length-replicate ran (Step process hart)
steps_length process hart ran (Some reply) = length-append (replicate ran (Step process hart)) (Step process hart ∷ []) ∙ ap (λ n. n + 1) (length-replicate ran (Step process hart))

steps_each : (process hart ran : ℕ) (last : Option Reply) → All Unlimited (steps_of process hart ran last)
steps_each process hart ran None = steps_unlimited process hart ran
steps_each process hart ran (Some reply) =
    All-append Unlimited (replicate ran (Step process hart)) (Step process hart ∷ []) (steps_unlimited process hart ran) (All-cons Unlimited (Step process hart) [] refl (All-nil _))

module _ {S : Type 0} (held : S → List ℕ) (honest : Type 0) (failures : S → ℕ) where
  -- each event has its reply
  runs_many : (events : List Event) (replies : List Reply) (old new : CoreValue S) → Runs held honest failures events replies old new → length events ≡ length replies
  unfolding Runs
  runs_many [] [] old new run = refl
  runs_many [] (r ∷ rs) old new run = absurd run
  runs_many (e ∷ es) [] old new run = absurd run
  runs_many (e ∷ es) (r ∷ rs) old new run = ap suc (runs_many es rs run.0 new run.1.1)

  pub plays_none : (most : ℕ) (tried : ℕ → ℕ) (duty left : Duty) (spent : Option ℕ) (core : CoreValue S) (patience : Patience) → IsPatient most tried patience → patience.spent ≡ spent → left ≡ duty
      → PlaysWith held honest failures most tried duty spent 0 core core patience left
  unfolding tried_after spent_after ArePaid duty_after
  plays_none most tried duty left spent core patience patient spends same = record {
    plays = record { events = []; replies = []; in_turn = in_turn_none held honest failures duty core; many = refl; unlimited = All-nil _; paid = tt {0} };
    patient = patient;
    spends = spends;
    owes = same;
  }

  pub plays_one : (most : ℕ) (tried : ℕ → ℕ) (duty left : Duty) (spent : Option ℕ) (old new : CoreValue S) (patience : Patience) (event : Event) (reply : Reply) → Applies held honest failures event old new reply
      → is_limit_kill event ≡ false → IsPatient most (λ number. tried_with number event reply (tried number)) patience → patience.spent ≡ spent_with most tried event reply
      → Pays (next_owed duty.owed spent) event → IsInTurn honest old duty.turn event → left ≡ duty_with event reply duty → PlaysWith held honest failures most tried duty spent 1 old new patience left
  unfolding tried_after spent_after ArePaid duty_after
  plays_one most tried duty left spent old new patience event reply applies unlimited patient spends pays in_turn owes = record {
    plays = record {
      events = event ∷ [];
      replies = reply ∷ [];
      in_turn = in_turn_one held honest failures duty event reply old new applies in_turn;
      many = refl;
      unlimited = All-cons Unlimited event [] unlimited (All-nil _);
      paid = (pays, tt {0});
    };
    patient = patient;
    spends = spends;
    owes = owes;
  }

  plays_steps : (most : ℕ) (tried : ℕ → ℕ) (duty left : Duty) (spent : Option ℕ) (old new : CoreValue S) (patience : Patience) (process hart ran : ℕ) (last : Option Reply)
      → ComeInTurn held honest failures duty (steps_of process hart ran last) (replies_of ran last) old new
      → IsPatient most (λ number. tried_after number (steps_of process hart ran last) (replies_of ran last) (tried number)) patience
      → patience.spent ≡ spent_after most tried (steps_of process hart ran last) (replies_of ran last) spent
      → ArePaid most tried duty spent (steps_of process hart ran last) (replies_of ran last) → left ≡ duty_after (steps_of process hart ran last) (replies_of ran last) duty
      → PlaysWith held honest failures most tried duty spent (steps_many last ran) old new patience left
  plays_steps most tried duty left spent old new patience process hart ran last in_turn patient spends paid owes = record {
    plays = record {
      events = steps_of process hart ran last;
      replies = replies_of ran last;
      in_turn = in_turn;
      many = steps_length process hart ran last;
      unlimited = steps_each process hart ran last;
      paid = paid;
    };
    patient = patient;
    spends = spends;
    owes = owes;
  }

  -- the last of which was told
  pub plays_last : (most : ℕ) (tried : ℕ → ℕ) (duty left : Duty) (spent : Option ℕ) (old new : CoreValue S) (patience : Patience) (process hart ran : ℕ) (last : Option Reply)
      → Runs held honest failures (steps_of process hart ran last) (replies_of ran last) old new
      → IsPatient most (λ number. tried_after number (steps_of process hart ran last) (replies_of ran last) (tried number)) patience
      → patience.spent ≡ spent_after most tried (steps_of process hart ran last) (replies_of ran last) spent
      → Pays (next_owed duty.owed spent) (Step process hart) → IsInTurn honest old duty.turn (Step process hart) → steps_many last ran ≤ max duty.turn.left 1 → left ≡ duty_after (steps_of process hart ran last) (replies_of ran last) duty
      → (reply : Reply) → last ≡ Some reply → (count : ℕ) → count ≡ ran → PlaysWith held honest failures most tried duty spent (count + 1) old new patience left
  plays_last most tried duty left spent old new patience process hart ran last runs patient spends pays in_turn few owes reply is count same =
      subst (λ n. PlaysWith held honest failures most tried duty spent n old new patience left) (ap (λ (l : Option Reply). steps_many l ran) is ∙ ap (λ n. n + 1) (sym same))
      (plays_steps most tried duty left spent old new patience process hart ran last (steps_in_turn held honest failures duty process hart ran last old new runs in_turn few) patient spends
      (steps_paid most tried duty spent process hart ran last pays) owes)

  -- or that all ran
  pub plays_all : (most : ℕ) (tried : ℕ → ℕ) (duty left : Duty) (spent : Option ℕ) (old new : CoreValue S) (patience : Patience) (process hart ran : ℕ) (last : Option Reply)
      → Runs held honest failures (steps_of process hart ran last) (replies_of ran last) old new
      → IsPatient most (λ number. tried_after number (steps_of process hart ran last) (replies_of ran last) (tried number)) patience
      → patience.spent ≡ spent_after most tried (steps_of process hart ran last) (replies_of ran last) spent
      → Pays (next_owed duty.owed spent) (Step process hart) → IsInTurn honest old duty.turn (Step process hart) → steps_many last ran ≤ max duty.turn.left 1 → left ≡ duty_after (steps_of process hart ran last) (replies_of ran last) duty
      → last ≡ None → (count : ℕ) → count ≡ ran → PlaysWith held honest failures most tried duty spent count old new patience left
  plays_all most tried duty left spent old new patience process hart ran last runs patient spends pays in_turn few owes is count same =
      subst (λ n. PlaysWith held honest failures most tried duty spent n old new patience left) (ap (λ (l : Option Reply). steps_many l ran) is ∙ sym same)
      (plays_steps most tried duty left spent old new patience process hart ran last (steps_in_turn held honest failures duty process hart ran last old new runs in_turn few) patient spends
      (steps_paid most tried duty spent process hart ran last pays) owes)

  pub plays_more : (most : ℕ) (tried : ℕ → ℕ) (duty midway left : Duty) (spent : Option ℕ) (first second total : ℕ) (old between new : CoreValue S) (middle patience : Patience)
      → (a : PlaysWith held honest failures most tried duty spent first old between middle midway)
      → PlaysWith held honest failures most (λ number. tried_after number a.plays.events a.plays.replies (tried number)) midway middle.spent second between new patience left → first + second ≡ total
      → PlaysWith held honest failures most tried duty spent total old new patience left
  plays_more most tried duty midway left spent first second total old between new middle patience a b sum =
      let same = runs_many a.plays.events a.plays.replies old between (in_turn_runs held honest failures duty a.plays.events a.plays.replies old between a.plays.in_turn) in
      let later : ℕ → ℕ = λ number. tried_after number a.plays.events a.plays.replies (tried number) in
      record {
        plays = record {
          events = a.plays.events ++ b.plays.events;
          replies = a.plays.replies ++ b.plays.replies;
          in_turn = in_turn_on held honest failures duty a.plays.events b.plays.events a.plays.replies b.plays.replies old between new a.plays.in_turn
              (subst (λ (d : Duty). ComeInTurn held honest failures d b.plays.events b.plays.replies between new) a.owes b.plays.in_turn);
          many = length-append a.plays.events b.plays.events ∙ omega (arith, a.plays.many, b.plays.many, sum);
          unlimited = All-append Unlimited a.plays.events b.plays.events a.plays.unlimited b.plays.unlimited;
          paid = paid_on most tried duty spent a.plays.events b.plays.events a.plays.replies b.plays.replies same a.plays.paid
              (subst (λ (s : Option ℕ). ArePaid most later (duty_after a.plays.events a.plays.replies duty) s b.plays.events b.plays.replies) a.spends
              (subst (λ (d : Duty). ArePaid most later d middle.spent b.plays.events b.plays.replies) a.owes b.plays.paid));
        };
        patient = patient_same most _ _ patience (λ number. sym (after_on number a.plays.events b.plays.events a.plays.replies b.plays.replies (tried number) same)) b.patient;
        spends = b.spends ∙ ap (spent_after most later b.plays.events b.plays.replies) a.spends ∙ sym (spent_on most tried a.plays.events b.plays.events a.plays.replies b.plays.replies spent same);
        owes = b.owes ∙ ap (duty_after b.plays.events b.plays.replies) a.owes ∙ sym (duty_on duty a.plays.events b.plays.events a.plays.replies b.plays.replies same);
      }

  save_reached : (unsaved : Option Key) (old new : CoreValue S) → DoesSave held honest failures unsaved old new → LeadsTo held honest failures old new
  save_reached None old new is = subst (λ (c : CoreValue S). LeadsTo held honest failures old c) (sym is) (reaches_same held honest failures old)
  save_reached (Some key) old new saves = reaches_one held honest failures old new (Saved key) saves.0 saves.1

  -- a run that is ended at its limit is one of the machine's
  pub ends_reached : (slice limit : ℕ) (old new : CoreValue S) → EndsByLimit held honest failures slice limit old new → LeadsTo held honest failures old new
  ends_reached slice limit old new ends =
      reaches_last held honest failures old ends.played ends.saved new
      (reaches_by held honest failures ends.plays.plays.events ends.plays.plays.replies old ends.played
      (in_turn_runs held honest failures (no_duty slice) ends.plays.plays.events ends.plays.plays.replies old ends.played ends.plays.plays.in_turn))
      (save_reached ends.unsaved ends.played ends.saved ends.saves)
      (reaches_by held honest failures _ ends.closes.replies ends.saved new ends.closes.runs)
