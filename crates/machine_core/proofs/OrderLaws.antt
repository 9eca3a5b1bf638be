-- The recorded orders of the processes: what an event adds to them.
use Rattle.std.proofs.Common.{◌≡◌, ℕ, List, [], Option, Some, slice_get, true, inl, inr, refl, sym, ap, ◌∙◌, subst}
use Rattle.std.specs.Prelude.{slice_set}
use Rattle.std.proofs.lemmas.Bool.Decides.{eqb_tells}
use Rattle.std.proofs.lemmas.List.{append-nil}
use Rattle.clock_policy.specs.declared.key.Key.{Key}
use Rattle.flat_machine.specs.Schedule.{written_out}
use Rattle.machine_core.proofs.TotalLaws.{get_set_same, get_set_other}
use Rattle.machine_core.specs.Headline.{adds, GoesOn, Remains, IsNamed}
use Rattle.machine_core.specs.Machine.{CoreValue}
use Rattle.machine_core.specs.MachineRun.{RefusesEvent}
use Rattle.machine_core.specs.declared.error.EventRefusal.{EventRefusal}
use Rattle.machine_core.specs.declared.event.Event.{Event}
use Rattle.machine_core.specs.declared.event.Event.TheVariants.{Step}
use Rattle.machine_core.specs.declared.event.Reply.{Reply}
use Rattle.machine_core.specs.declared.event.Reply.TheVariants.{Refused}
use Rattle.machine_core.specs.declared.event.Reply.TheVariants as reply
use Rattle.space_core.specs.StandsFor.{SpaceValue}

refused_adds : (event : Event) (number : ℕ) (refusal : EventRefusal) → adds number event (Refused refusal) ≡ []
refused_adds (Step process hart) number refusal = refl
refused_adds _ number refusal = refl

module _ {S : Type 0} where
  -- the image, the input and the recorded order stay
  pub record SameOrder (old new : SpaceValue S) : Type 0 where
    pub image : new.image ≡ old.image
    pub input : new.input ≡ old.input
    pub schedule : new.schedule ≡ old.schedule

  pub same_beside : (old new : SpaceValue S) → new ≡ record old { memory = new.memory } → SameOrder old new
  same_beside old new stays = record { image = ap (λ (s : SpaceValue S). s.image) stays; input = ap (λ (s : SpaceValue S). s.input) stays; schedule = ap (λ (s : SpaceValue S). s.schedule) stays }

  pub same_purged : (old new : SpaceValue S) → new ≡ record old { memory = new.memory; purged = true } → SameOrder old new
  same_purged old new is = record { image = ap (λ (s : SpaceValue S). s.image) is; input = ap (λ (s : SpaceValue S). s.input) is; schedule = ap (λ (s : SpaceValue S). s.schedule) is }

  pub same_all : (old new : SpaceValue S) → new ≡ old → SameOrder old new
  same_all old new e = record { image = ap (λ (s : SpaceValue S). s.image) e; input = ap (λ (s : SpaceValue S). s.input) e; schedule = ap (λ (s : SpaceValue S). s.schedule) e }

  pub then_same : (old between new : SpaceValue S) → SameOrder old between → SameOrder between new → SameOrder old new
  then_same old between new first second = record { image = second.image ∙ first.image; input = second.input ∙ first.input; schedule = second.schedule ∙ first.schedule }

  -- ---- what becomes of a process

  pub goes_same : (old new : SpaceValue S) → SameOrder old new → GoesOn [] old new
  goes_same old new same = record {
    image = same.image;
    input = same.input;
    recorded = ap written_out same.schedule ∙ sym (append-nil (written_out old.schedule));
  }

  goes_still : (space : SpaceValue S) → GoesOn [] space space
  goes_still space = goes_same space space (same_all space space refl)

  -- one process goes on, and all others are the same
  module _ (old new : List (SpaceValue S)) (p : ℕ) (q q' : SpaceValue S) (found : slice_get old p ≡ Some q) (is : new ≡ slice_set old p q') where
    pub one_remains : (added : ℕ → List ℕ) → GoesOn (added p) q q' → ((number : ℕ) → (number ≡ p → ⊥) → added number ≡ []) → (number : ℕ) (r : SpaceValue S) → slice_get old number ≡ Some r
        → Remains number (added number) new r
    one_remains added goes none number r at =
        elim (eqb_tells number p) [
          | inl same ↦
              let e : r ≡ q = let a = at in let b = found in let c = same.1 in cc in
              record {
                process = q';
                found = ap (slice_get new) same.1 ∙ ap (λ l. slice_get l p) is ∙ get_set_same old p q q' found;
                goes_on = subst (λ n. GoesOn (added n) r q') (sym same.1) (subst (λ (x : SpaceValue S). GoesOn (added p) x q') (sym e) goes);
              }
          | inr apart ↦ record {
            process = r;
            found = ap (λ l. slice_get l number) is ∙ get_set_other old p number q' apart.1 ∙ at;
            goes_on = subst (λ l. GoesOn l r r) (sym (none number apart.1)) (goes_still r);
          }
        ]

    pub quiet_remains : GoesOn [] q q' → (number : ℕ) (r : SpaceValue S) → slice_get old number ≡ Some r → Remains number [] new r
    quiet_remains goes number r at = one_remains (λ _. []) goes (λ _ _. refl) number r at

  pub still_remains : (old new : List (SpaceValue S)) → new ≡ old → (number : ℕ) (r : SpaceValue S) → slice_get old number ≡ Some r → Remains number [] new r
  still_remains old new same number r at = record { process = r; found = ap (λ l. slice_get l number) same ∙ at; goes_on = goes_still r }

  -- ---- events

  -- what an event does to the recorded orders, and which victim it tells
  pub record Tells (event : Event) (answer : Reply) (old new : CoreValue S) : Type 0 where
    pub recorded : (number : ℕ) (process : SpaceValue S) → slice_get old.processes number ≡ Some process → Remains number (adds number event answer) new.processes process
    pub victim : (key : Key) → answer ≡ reply.Victim key → IsNamed old new key

  pub refused_tells : (event : Event) (reason : Option EventRefusal) (old new : CoreValue S) (answer : Reply) → RefusesEvent reason old new answer → Tells event answer old new
  refused_tells event reason old new answer refuses = record {
    recorded = λ number process at.
        subst (λ l. Remains number l new.processes process) (sym (ap (adds number event) refuses.reply_is ∙ refused_adds event number refuses.refusal))
        (still_remains old.processes new.processes (ap (λ (c : CoreValue S). c.processes) refuses.stays) number process at);
    victim = λ key is. let e = refuses.reply_is in absurd (let f : Refused refuses.refusal ≡ reply.Victim key = sym e ∙ is in cc);
  }

  -- an event that changes one process, whose order stays, and is answered with no victim
  pub quiet_tells : (event : Event) (old new : CoreValue S) (answer : Reply) (p : ℕ) (q q' : SpaceValue S) → slice_get old.processes p ≡ Some q → new.processes ≡ slice_set old.processes p q'
      → SameOrder q q' → ((number : ℕ) → adds number event answer ≡ []) → ((key : Key) → answer ≡ reply.Victim key → ⊥) → Tells event answer old new
  quiet_tells event old new answer p q q' found is same none no_victim = record {
    recorded = λ number process at.
        subst (λ l. Remains number l new.processes process) (sym (none number)) (quiet_remains old.processes new.processes p q q' found is (goes_same q q' same) number process at);
    victim = λ key told. absurd (no_victim key told);
  }
