-- What the events of a page that leaves, and of an ended process, add to the recorded orders: nothing.
use Rattle.std.proofs.Common.{◌≡◌, ℕ, List, inl, inr, refl, sym, ap, ◌∙◌}
use Rattle.clock_policy.specs.declared.key.Key.{Key}
use Rattle.machine_core.proofs.OrderLaws.{SameOrder, same_beside, same_purged, same_all, same_beside, then_same, Tells, quiet_tells}
use Rattle.machine_core.specs.CollectEvent.{CollectsTo, not_yet, freed, dirty, no_slot, CollectsOnce}
use Rattle.machine_core.specs.Machine.{CoreValue}
use Rattle.machine_core.specs.PurgeEvent.{PurgesOnce}
use Rattle.machine_core.specs.SavingOut.{SavesOnce}
use Rattle.machine_core.specs.declared.event.Event.TheVariants.{Collect, Saved, Purge}
use Rattle.machine_core.specs.declared.event.Reply.{Reply}
use Rattle.machine_core.specs.declared.event.Reply.TheVariants as reply
use Rattle.space_core.specs.StandsFor.{SpaceValue}

module _ {S : Type 0} where
  -- the order of the process stays, and no victim is told
  record IsQuiet (process process' : SpaceValue S) (answer : Reply) : Type 0 where
    pub same : SameOrder process process'
    pub no_victim : (k : Key) → answer ≡ reply.Victim k → ⊥

  collected_quiet : (vpn : ℕ) (old new : CoreValue S) (process process' : SpaceValue S) (answer : Reply) → CollectsTo vpn old new process process' answer → IsQuiet process process' answer
  collected_quiet vpn old new process process' answer (not_yet how jobs told) = record {
    same = same_all process process' (ap (λ (p : SpaceValue S). p) how.stays.process_stays);
    no_victim = λ k is. let e : reply.NotYet ≡ reply.Victim k = sym told ∙ is in cc;
  }
  collected_quiet vpn old new process process' answer (freed how jobs told) = record {
    same = same_beside process process' how.drops.stays;
    no_victim = λ k is. let e : reply.Freed ≡ reply.Victim k = sym told ∙ is in cc;
  }
  collected_quiet vpn old new process process' answer (dirty job how jobs told) = record {
    same = same_beside process process' how.saving.stays;
    no_victim = λ k is. let e : reply.Dirty ≡ reply.Victim k = sym told ∙ is in cc;
  }
  collected_quiet vpn old new process process' answer (no_slot how jobs told) = record {
    same = same_beside process process' how.returns.mapped.stays;
    no_victim = λ k is. let e : reply.NoSlot ≡ reply.Victim k = sym told ∙ is in cc;
  }

  pub collect_tells : (held : S → List ℕ) (honest : Type 0) (key : Key) (old new : CoreValue S) (answer : Reply) → CollectsOnce held honest key old new answer → Tells (Collect key) answer old new
  collect_tells held honest key old new answer once =
      let quiet = collected_quiet key.vpn old new once.process once.process' answer once.comes_to in
      quiet_tells (Collect key) old new answer key.process once.process once.process' once.found once.processes quiet.same (λ _. refl) quiet.no_victim

  -- a save that comes back
  pub saved_tells : (held : S → List ℕ) (honest : Type 0) (failures : S → ℕ) (key : Key) (old new : CoreValue S) (answer : Reply) → SavesOnce held honest failures key old new answer → Tells (Saved key) answer old new
  saved_tells held honest failures key old new answer once =
      quiet_tells (Saved key) old new answer key.process once.process once.process' once.found once.processes
      (elim once.ends [
        | inl passed ↦ same_beside once.process once.process' passed.0.settles.stays
        | inr back ↦ then_same once.process back.0.between once.process' (same_beside once.process back.0.between back.0.settles.stays) (same_beside back.0.between once.process' back.0.returns.mapped.stays)
      ])
      (λ _. refl)
      (λ k is. elim once.ends [
        | inl passed ↦ let e : reply.Freed ≡ reply.Victim k = sym passed.1 ∙ is in cc
        | inr back ↦ let e : reply.Device ≡ reply.Victim k = sym back.1 ∙ is in cc
      ])

  -- an ended process that gives everything back
  pub purge_tells : (p : ℕ) (old new : CoreValue S) (answer : Reply) → PurgesOnce p old new answer → Tells (Purge p) answer old new
  purge_tells p old new answer once =
      quiet_tells (Purge p) old new answer p once.process once.process' once.found once.processes (same_purged once.process once.process' once.purges.is) (λ _. refl)
      (λ k is. let e : reply.Purged ≡ reply.Victim k = sym once.reply_is ∙ is in cc)
