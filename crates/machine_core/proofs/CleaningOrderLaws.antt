-- What the events of a page that is cleaned add to the recorded orders: nothing.
use Rattle.std.proofs.Common.{◌≡◌, ℕ, List, refl, sym, ◌∙◌}
use Rattle.clock_policy.specs.declared.key.Key.{Key}
use Rattle.page_store.specs.JobValue.{JobValue}
use Rattle.page_store.specs.declared.answer.Cleaned.{Cleaned}
use Rattle.page_store.specs.declared.answer.Cleaned.TheVariants as end
use Rattle.machine_core.specs.CleaningEvents.{CleansOnce, CopiesOnce, CopiesTo, stored, not_yet, no_slot, copied, CleanedOnce, RepliesBack}
use Rattle.machine_core.specs.Machine.{CoreValue}
use Rattle.machine_core.proofs.OrderLaws.{SameOrder, same_beside, Tells, quiet_tells}
use Rattle.machine_core.specs.declared.event.Event.TheVariants as event
use Rattle.machine_core.specs.declared.event.Reply.{Reply}
use Rattle.machine_core.specs.declared.event.Reply.TheVariants as reply
use Rattle.space_core.specs.StandsFor.{SpaceValue}

module _ {S : Type 0} where
  pub clean_tells : (held : S → List ℕ) (key : Key) (old new : CoreValue S) (answer : Reply) → CleansOnce held key old new answer → Tells (event.Clean key) answer old new
  clean_tells held key old new answer once =
      quiet_tells (event.Clean key) old new answer key.process once.process once.process' once.found once.processes (same_beside once.process once.process' once.starts.stays) (λ _. refl)
      (λ k is. let e : reply.Cleaning ≡ reply.Victim k = sym once.reply_is ∙ is in cc)

  -- the order of the process stays, and no victim is told
  record IsQuiet (process process' : SpaceValue S) (answer : Reply) : Type 0 where
    pub same : SameOrder process process'
    pub no_victim : (k : Key) → answer ≡ reply.Victim k → ⊥

  copied_quiet : (vpn : ℕ) (old new : CoreValue S) (process process' : SpaceValue S) (answer : Reply) → CopiesTo vpn old new process process' answer → IsQuiet process process' answer
  copied_quiet vpn old new process process' answer (stored how copies told) = record {
    same = same_beside process process' how.lends.stays;
    no_victim = λ k is. let e : reply.Stored ≡ reply.Victim k = sym told ∙ is in cc;
  }
  copied_quiet vpn old new process process' answer (not_yet how copies told) = record {
    same = same_beside process process' how.lends.stays;
    no_victim = λ k is. let e : reply.NotYet ≡ reply.Victim k = sym told ∙ is in cc;
  }
  copied_quiet vpn old new process process' answer (no_slot how copies told) = record {
    same = same_beside process process' how.lends.stays;
    no_victim = λ k is. let e : reply.NoSlot ≡ reply.Victim k = sym told ∙ is in cc;
  }
  copied_quiet vpn old new process process' answer (copied job how copies told) = record {
    same = same_beside process process' how.lends.stays;
    no_victim = λ k is. let e : reply.Copied ≡ reply.Victim k = sym told ∙ is in cc;
  }

  pub copy_tells : (held : S → List ℕ) (key : Key) (old new : CoreValue S) (answer : Reply) → CopiesOnce held key old new answer → Tells (event.Copy key) answer old new
  copy_tells held key old new answer once =
      let quiet = copied_quiet key.vpn old new once.process once.process' answer once.comes_to in
      quiet_tells (event.Copy key) old new answer key.process once.process once.process' once.found once.processes quiet.same (λ _. refl) quiet.no_victim

  no_victim_back : (came : Cleaned S) (answer : Reply) → RepliesBack came answer → (k : Key) → answer ≡ reply.Victim k → ⊥
  no_victim_back (end.WrongPage back) answer told k is = told
  no_victim_back end.Stored answer told k is = let e : reply.Stored ≡ reply.Victim k = sym told ∙ is in cc
  no_victim_back end.Device answer told k is = let e : reply.Device ≡ reply.Victim k = sym told ∙ is in cc
  no_victim_back end.Clean answer told k is = let e : reply.Cleaned ≡ reply.Victim k = sym told ∙ is in cc

  pub cleaned_tells : (held : S → List ℕ) (honest : Type 0) (failures : S → ℕ) (key : Key) (old new : CoreValue S) (answer : Reply) → CleanedOnce held honest failures key old new answer → Tells (event.Cleaned key) answer old new
  cleaned_tells held honest failures key old new answer once =
      quiet_tells (event.Cleaned key) old new answer key.process once.process once.process' once.found once.processes (same_beside once.process once.process' once.ends.stays) (λ _. refl) (no_victim_back once.came answer once.told)
