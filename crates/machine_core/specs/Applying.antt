-- The machine run: events one after another, each with its reply.
use Rattle.std.specs.Prelude.{◌≡◌, ◌⊎◌, ℕ, List, [], ◌∷◌, ◌++◌}
use Rattle.clock_policy.specs.ClockPro.{question_of}
use Rattle.machine_core.specs.declared.event.Event.{Event}
use Rattle.machine_core.specs.declared.event.Event.TheVariants.{Step, Notice, Sweep, Collect, Saved, PageIn, Kill, Purge, Clean, Copy, Cleaned}
use Rattle.machine_core.specs.declared.event.Reply.{Reply}
use Rattle.machine_core.specs.CleaningEvents.{clean_refusal, copy_refusal, cleaned_refusal, CleansOnce, CopiesOnce, CleanedOnce}
use Rattle.machine_core.specs.CollectEvent.{collect_refusal, CollectsOnce}
use Rattle.machine_core.specs.PurgeEvent.{purge_refusal, PurgesOnce}
use Rattle.machine_core.specs.SavingOut.{saved_refusal, SavesOnce}
use Rattle.machine_core.specs.Faithful.{IsFaithful}
use Rattle.machine_core.specs.Machine.{CoreValue}
use Rattle.machine_core.specs.PagingIn.{page_in_refusal, PagesInOnce}
use Rattle.machine_core.specs.MachineRun.{hart_refusal, kill_refusal, sweep_refusal, RefusesEvent, StepsHart, Notices, Kills, SweepsOnce}

module _ {S : Type 0} (held : S → List ℕ) (honest : Type 0) (failures : S → ℕ) where
  -- what an event does: it is refused for the first reason that holds, or it is served
  abbrev pub ServesEvent : Event → CoreValue S → CoreValue S → Reply → Type 0
  ServesEvent (Step process hart) old new reply = RefusesEvent (hart_refusal process hart old.processes) old new reply ⊎ StepsHart held honest process hart old new reply
  ServesEvent (Notice process hart) old new reply = RefusesEvent (hart_refusal process hart old.processes) old new reply ⊎ Notices process hart old new reply
  ServesEvent Sweep old new reply = RefusesEvent (sweep_refusal (question_of old.pager.pager.list)) old new reply ⊎ SweepsOnce old new reply
  ServesEvent (Collect key) old new reply = RefusesEvent (collect_refusal key old.processes) old new reply ⊎ CollectsOnce held honest key old new reply
  ServesEvent (Saved key) old new reply = RefusesEvent (saved_refusal key old.processes) old new reply ⊎ SavesOnce held honest failures key old new reply
  ServesEvent (PageIn key) old new reply = RefusesEvent (page_in_refusal key old) old new reply ⊎ PagesInOnce held honest failures key old new reply
  ServesEvent (Kill process cause) old new reply = RefusesEvent (kill_refusal process old.processes) old new reply ⊎ Kills process cause old new reply
  ServesEvent (Purge process) old new reply = RefusesEvent (purge_refusal process old.processes) old new reply ⊎ PurgesOnce process old new reply
  ServesEvent (Clean key) old new reply = RefusesEvent (clean_refusal key old.processes) old new reply ⊎ CleansOnce held key old new reply
  ServesEvent (Copy key) old new reply = RefusesEvent (copy_refusal key old.processes) old new reply ⊎ CopiesOnce held key old new reply
  ServesEvent (Cleaned key) old new reply = RefusesEvent (cleaned_refusal key old) old new reply ⊎ CleanedOnce held honest failures key old new reply

  -- an event and its reply, and the machine that it leaves, which is a faithful one
  pub record Applies (event : Event) (old new : CoreValue S) (reply : Reply) : Type 0 where
    pub served : ServesEvent event old new reply
    pub faithful : IsFaithful held honest new

  -- events one after another, each with its reply
  unfoldable pub Runs : List Event → List Reply → CoreValue S → CoreValue S → Type 0
  Runs [] [] old new = new ≡ old
  Runs [] (reply ∷ replies) old new = ⊥
  Runs (event ∷ events) [] old new = ⊥
  Runs (event ∷ events) (reply ∷ replies) old new = (between : CoreValue S) × (Applies event old between reply × Runs events replies between new)

  -- some events, whatever their replies, lead from one machine to the other
  pub record LeadsTo (old new : CoreValue S) : Type 0 where
    pub events : List Event
    pub replies : List Reply
    pub runs : Runs events replies old new

  -- a run that was cut in two
  pub record CutRun (first second : List Event) (replies : List Reply) (old new : CoreValue S) : Type 0 where
    pub replies-first : List Reply
    pub replies-second : List Reply
    pub between : CoreValue S
    pub joined : replies ≡ replies-first ++ replies-second
    pub before : Runs first replies-first old between
    pub after : Runs second replies-second between new
