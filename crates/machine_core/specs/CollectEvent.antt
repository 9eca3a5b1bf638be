-- The machine's event of a page that is to leave its frame: when it is refused, and what comes of a look at it.
use Rattle.std.specs.Prelude.{◌≡◌, ℕ, Option, Some, None, List, [], ◌∷◌, ◌++◌, slice_get, slice_set, if◌then◌else◌}
use Rattle.clock_policy.specs.declared.key.Key.{Key}
use Rattle.page_store.specs.JobValue.{JobValue}
use Rattle.paged_memory.specs.Paged.{memory_of}
use Rattle.machine_core.specs.declared.error.EventRefusal.{EventRefusal}
use Rattle.machine_core.specs.declared.error.EventRefusal.TheVariants as refusal
use Rattle.machine_core.specs.declared.event.Reply.{Reply}
use Rattle.machine_core.specs.declared.event.Reply.TheVariants as reply
use Rattle.machine_core.specs.Machine.{CoreValue}
use Rattle.machine_core.specs.MachineRun.{of_process}
use Rattle.machine_sides.specs.Collecting.{is_leaving_at, IsNotYet, IsDropped, IsCopied, LacksAndReturns}
use Rattle.space_core.specs.StandsFor.{SpaceValue}

module _ {S : Type 0} where
  -- why a look at a page is refused
  abbrev pub leaving_reason : ℕ → SpaceValue S → Option EventRefusal
  leaving_reason vpn process = if is_leaving_at process vpn then None else Some refusal.NotLeaving

  abbrev pub collect_refusal : Key → List (SpaceValue S) → Option EventRefusal
  collect_refusal key processes = of_process (leaving_reason key.vpn) (slice_get processes key.process)

  module _ (vpn : ℕ) (old new : CoreValue S) (process process' : SpaceValue S) (answer : Reply) where
    -- what a look at a page of a process comes to in the machine, with the saves that are then out and the reply: the save of a
    -- changed page is kept there
    pub data CollectsTo : Type 0 where
      not_yet : IsNotYet vpn old.pager new.pager process process' old.slots new.slots → new.jobs ≡ old.jobs → answer ≡ reply.NotYet → CollectsTo
      freed : IsDropped vpn old.pager new.pager process process' old.slots new.slots → new.jobs ≡ old.jobs → answer ≡ reply.Freed → CollectsTo
      dirty : (job : JobValue S) → IsCopied vpn old.pager new.pager process process' old.slots new.slots job → new.jobs ≡ old.jobs ++ job ∷ [] → answer ≡ reply.Dirty → CollectsTo
      no_slot : LacksAndReturns vpn old.pager new.pager process process' old.slots new.slots → new.jobs ≡ old.jobs → answer ≡ reply.NoSlot → CollectsTo

  -- a page that is leaving is looked at
  pub record CollectsOnce (held : S → List ℕ) (honest : Type 0) (key : Key) (old new : CoreValue S) (answer : Reply) : Type 0 where
    pub allowed : collect_refusal key old.processes ≡ None
    pub process : SpaceValue S
    pub process' : SpaceValue S
    pub found : slice_get old.processes key.process ≡ Some process
    pub comes_to : CollectsTo key.vpn old new process process' answer
    pub memory : honest → memory_of held process'.memory ≡ memory_of held process.memory
    pub processes : new.processes ≡ slice_set old.processes key.process process'
    pub stays : new ≡ record old { pager = new.pager; slots = new.slots; processes = new.processes; jobs = new.jobs }
