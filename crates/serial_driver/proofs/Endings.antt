-- What has ended stays so, and what the machine ends has ended.
use Rattle.std.proofs.Common.{◌≡◌, ◌≢◌, ℕ, zero, suc, ◌+◌, ◌<◌, ◌≤◌, ◌⊎◌, true, false, List, [], ◌∷◌, length, Option, Some, None, IsSome, slice_get, inl, inr, refl, sym, ap, ◌∙◌, arith, subst}
use Rattle.std.specs.Prelude.{slice_set, is_some, is_none, option_map, if◌then◌else◌}
use Rattle.std.specs.Option.{option_or}
use Rattle.std.proofs.lemmas.Bool.Decides.{leb_tells}
use Rattle.std.proofs.lemmas.Option.{same_Some}
use Rattle.flat_machine.specs.declared.end.End.{End}
use Rattle.flat_machine.specs.declared.end.KillCause.{KillCause}
use Rattle.machine_core.specs.Applying.{Applies}
use Rattle.machine_core.specs.Machine.{CoreValue}
use Rattle.machine_core.specs.MachineRun.{of_process, end_reason}
use Rattle.machine_core.specs.declared.error.EventRefusal.{EventRefusal}
use Rattle.machine_core.specs.declared.event.Event.TheVariants.{Kill, Purge}
use Rattle.machine_core.specs.declared.event.Reply.{Reply}
use Rattle.space_core.specs.StandsFor.{SpaceValue}
use Rattle.serial_driver.specs.Closing.{goes_on}
use Rattle.serial_driver.specs.Endings.{HasEnded}

module _ {A : Type 0} where
  -- what stands in a list of which one place changed
  got_set : (xs : List A) (p i : ℕ) (y q : A) → slice_get (slice_set xs p y) i ≡ Some q → ((i ≡ p) × (q ≡ y)) ⊎ (slice_get xs i ≡ Some q)
  got_set [] p i y q h = cc
  got_set (z ∷ zs) zero zero y q h = inl (refl, cc)
  got_set (z ∷ zs) zero (suc i) y q h = inr h
  got_set (z ∷ zs) (suc p) zero y q h = inr h
  got_set (z ∷ zs) (suc p) (suc i) y q h = elim (got_set zs p i y q h) [ inl e ↦ inl (ap suc e.0, e.1) | inr e ↦ inr e ]

  pub get_set_other : (xs : List A) (p i : ℕ) (y : A) → i ≢ p → slice_get (slice_set xs p y) i ≡ slice_get xs i
  get_set_other [] p i y other = refl
  get_set_other (z ∷ zs) zero zero y other = absurd (other refl)
  get_set_other (z ∷ zs) zero (suc i) y other = refl
  get_set_other (z ∷ zs) (suc p) zero y other = refl
  get_set_other (z ∷ zs) (suc p) (suc i) y other = get_set_other zs p i y (λ same. other (ap suc same))

  get_set_same : (xs : List A) (p : ℕ) (x y : A) → slice_get xs p ≡ Some x → slice_get (slice_set xs p y) p ≡ Some y
  get_set_same [] p x y h = cc
  get_set_same (z ∷ zs) zero x y h = refl
  get_set_same (z ∷ zs) (suc p) x y h = get_set_same zs p x y h

  nothing_behind : (xs : List A) (i : ℕ) (x : A) → length xs ≤ i → slice_get xs i ≡ Some x → ⊥
  nothing_behind [] i x long h = cc
  nothing_behind (z ∷ zs) zero x long h = absurd (omega arith)
  nothing_behind (z ∷ zs) (suc i) x long h = nothing_behind zs i x (omega arith) h

same_some : {A : Type 0} (x y : A) (o : Option A) → o ≡ Some x → o ≡ Some y → x ≡ y
same_some x y o a b = cc

-- the machine's ending, or the one that was there
is_ended : (o : Option End) (e : End) → IsSome (option_or o (Some e))
is_ended None e = refl
is_ended (Some x) e = refl

-- a process that can't be ended has ended
refused_ended : (o : Option End) (reason refusal : EventRefusal) → (if is_some o then Some reason else None) ≡ Some refusal → IsSome o
refused_ended None reason refusal h = cc
refused_ended (Some x) reason refusal h = refl

module _ {S : Type 0} where
  -- one process changes, and goes on no more if it did not
  keeps_one : (old new : CoreValue S) (p : ℕ) (q q' : SpaceValue S) → slice_get old.processes p ≡ Some q → new.processes ≡ slice_set old.processes p q'
      → (IsSome q.running.ending → IsSome q'.running.ending) → (number : ℕ) → HasEnded old number → HasEnded new number
  keeps_one old new p q q' found is keeps number ended process at =
      elim (got_set old.processes p number q' process (ap (λ l. slice_get l number) (sym is) ∙ at)) [
        | inl here ↦ subst (λ (x : SpaceValue S). IsSome x.running.ending) (sym here.1) (keeps (ended q (ap (slice_get old.processes) here.0 ∙ found)))
        | inr there ↦ ended process there
      ]

  same_ended : (old new : CoreValue S) → new ≡ old → (number : ℕ) → HasEnded old number → HasEnded new number
  same_ended old new is number ended process at = ended process (ap (λ (c : CoreValue S). slice_get c.processes number) (sym is) ∙ at)

  refused_process : (o : Option (SpaceValue S)) (process : SpaceValue S) (refusal : EventRefusal) → o ≡ Some process → of_process end_reason o ≡ Some refusal → IsSome process.running.ending
  refused_process o process refusal at why = refused_ended process.running.ending _ refusal (ap (of_process end_reason) (sym at) ∙ why)

  module _ (held : S → List ℕ) (honest : Type 0) (failures : S → ℕ) (old new : CoreValue S) (p : ℕ) (reply : Reply) where
    -- a process that the machine ends has ended
    pub kill_ends : (cause : KillCause) → Applies held honest failures (Kill p cause) old new reply → HasEnded new p
    kill_ends cause applies =
        elim applies.served [
          | inl refused ↦ λ process at. refused_process (slice_get old.processes p) process refused.refusal (ap (λ (c : CoreValue S). slice_get c.processes p) (sym refused.stays) ∙ at) refused.reason_is
          | inr kills ↦ λ process at.
              let now = ap (λ l. slice_get l p) kills.one.is ∙ get_set_same old.processes p kills.one.process kills.one.process' kills.one.found in
              let same : kills.one.process' ≡ process = same_some _ _ (slice_get new.processes p) now at in
              subst (λ (x : SpaceValue S). IsSome x.running.ending) (sym kills.one.how ∙ same) (is_ended kills.one.process.running.ending _)
        ]

    -- and what has ended stays so
    pub kill_keeps : (cause : KillCause) → Applies held honest failures (Kill p cause) old new reply → (number : ℕ) → HasEnded old number → HasEnded new number
    kill_keeps cause applies =
        elim applies.served [
          | inl refused ↦ same_ended old new refused.stays
          | inr kills ↦ keeps_one old new p kills.one.process kills.one.process' kills.one.found kills.one.is
              (λ _. subst (λ (x : SpaceValue S). IsSome x.running.ending) (sym kills.one.how) (is_ended kills.one.process.running.ending _))
        ]

    -- no other process changes
    pub kill_others : (cause : KillCause) → Applies held honest failures (Kill p cause) old new reply → (other : ℕ) → other ≢ p → slice_get new.processes other ≡ slice_get old.processes other
    kill_others cause applies other apart =
        elim applies.served [
          | inl refused ↦ ap (λ (c : CoreValue S). slice_get c.processes other) refused.stays
          | inr kills ↦ ap (λ l. slice_get l other) kills.one.is ∙ get_set_other old.processes p other kills.one.process' apart
        ]

    pub purge_others : Applies held honest failures (Purge p) old new reply → (other : ℕ) → other ≢ p → slice_get new.processes other ≡ slice_get old.processes other
    purge_others applies other apart =
        elim applies.served [
          | inl refused ↦ ap (λ (c : CoreValue S). slice_get c.processes other) refused.stays
          | inr purges ↦ ap (λ l. slice_get l other) purges.processes ∙ get_set_other old.processes p other purges.process' apart
        ]

    -- also where a process gives back what it has
    pub purge_keeps : Applies held honest failures (Purge p) old new reply → (number : ℕ) → HasEnded old number → HasEnded new number
    purge_keeps applies =
        elim applies.served [
          | inl refused ↦ same_ended old new refused.stays
          | inr purges ↦ keeps_one old new p purges.process purges.process' purges.found purges.processes
              (λ ended. subst (λ (x : SpaceValue S). IsSome x.running.ending) (sym purges.purges.is) ended)
        ]

  -- one more process has ended
  pub ended_more : (core : CoreValue S) (count : ℕ) → ((number : ℕ) → number < count → HasEnded core number) → HasEnded core count → (number : ℕ) → number < count + 1 → HasEnded core number
  ended_more core count before next number within =
      elim (leb_tells count number) [
        | inl high ↦ let least = high.1 in let same : count ≡ number = omega (arith, within, least) in subst (HasEnded core) same next
        | inr low ↦ before number low.1
      ]

  -- there is no process behind the last one
  pub none_behind : (core : CoreValue S) (number : ℕ) → length core.processes ≤ number → HasEnded core number
  none_behind core number behind process at = absurd (nothing_behind core.processes number process behind at)

  -- all have ended, where those below a number have and none stands behind it
  pub ended_whole : (old new : CoreValue S) (count : ℕ) → length old.processes ≤ count → ((number : ℕ) → count ≤ number → slice_get new.processes number ≡ slice_get old.processes number)
      → ((number : ℕ) → number < count → HasEnded new number) → (number : ℕ) → HasEnded new number
  ended_whole old new count many same before number =
      elim (leb_tells count number) [
        | inl high ↦ λ process at. let least = high.1 in none_behind old number (omega (arith, many, least)) process (sym (same number least) ∙ at)
        | inr low ↦ before number low.1
      ]

  -- what is told of a process's ending tells whether it goes on
  pub going : (process : Option (SpaceValue S)) → Some None ≡ option_map (λ (p : SpaceValue S). p.running.ending) process → true ≡ goes_on process
  going None told = cc
  going (Some process) told = sym (ap is_none (sym (same_Some _ _ told)))

  pub gone : (process : Option (SpaceValue S)) (e : End) → Some (Some e) ≡ option_map (λ (p : SpaceValue S). p.running.ending) process → false ≡ goes_on process
  gone None e told = cc
  gone (Some process) e told = ap is_none (same_Some _ _ told)

  pub not_there : (process : Option (SpaceValue S)) → None ≡ option_map (λ (p : SpaceValue S). p.running.ending) process → false ≡ goes_on process
  not_there None told = refl
  not_there (Some process) told = cc

pub ruleset is_going_on = (going, gone, not_there)
