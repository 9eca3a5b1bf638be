-- The machine's event of an ended process that gives its frames and slots back.
use Rattle.std.specs.Prelude.{◌≡◌, ℕ, Option, Some, None, option_map, List, slice_get, slice_set}
use Rattle.machine_core.specs.Machine.{CoreValue}
use Rattle.machine_core.specs.MachineRun.{of_process}
use Rattle.machine_sides.specs.Purging.{purge_bars, PurgesAll}
use Rattle.machine_core.specs.declared.error.EventRefusal.{EventRefusal}
use Rattle.machine_core.specs.declared.error.EventRefusal.TheVariants as refusal
use Rattle.machine_core.specs.declared.event.Reply.{Reply}
use Rattle.machine_core.specs.declared.event.Reply.TheVariants.{Purged}
use Rattle.machine_sides.specs.declared.purging.PurgeRefusal.{PurgeRefusal}
use Rattle.machine_sides.specs.declared.purging.PurgeRefusal.TheVariants.{NotEnded, SavingStill, AlreadyPurged}
use Rattle.space_core.specs.StandsFor.{SpaceValue}

-- a process's reason to give nothing back as a refusal of the event
abbrev pub purge_reason : PurgeRefusal → EventRefusal
purge_reason NotEnded = refusal.NotEnded
purge_reason SavingStill = refusal.SavingStill
purge_reason AlreadyPurged = refusal.Purged

module _ {S : Type 0} where
  -- why the event is refused
  abbrev pub purge_refusal : ℕ → List (SpaceValue S) → Option EventRefusal
  purge_refusal process processes = of_process (λ side. option_map purge_reason (purge_bars side)) (slice_get processes process)

  -- an ended process gives everything back, and the list forgets its pages
  pub record PurgesOnce (number : ℕ) (old new : CoreValue S) (reply : Reply) : Type 0 where
    pub allowed : purge_refusal number old.processes ≡ None
    pub process : SpaceValue S
    pub process' : SpaceValue S
    pub found : slice_get old.processes number ≡ Some process
    pub purges : PurgesAll old.pager new.pager process process' old.slots new.slots
    pub processes : new.processes ≡ slice_set old.processes number process'
    pub stays : new ≡ record old { pager = new.pager; slots = new.slots; processes = new.processes }
    pub reply_is : reply ≡ Purged
