-- An admitted page is brought into its frame, or not.
use Rattle.std.specs.Prelude.{◌≡◌, ℕ, ◌^◌, ◌<◌, ◌≤◌, List}
use Rattle.paged_memory.specs.moves.Moving.{ComesIn, RefusesIn, SameCaches, SameEntries}
use Rattle.paged_memory.specs.Paged.{memory_of}
use Rattle.paged_memory.specs.declared.filling.PageInFault.{PageInFault}
use Rattle.paged_memory.specs.declared.filling.PageInFault.TheVariants.{NotAbsent}
use Rattle.space_core.specs.StandsFor.{SpaceValue}
use Rattle.machine_sides.specs.Admitting.{AdmissionValue}
use Rattle.machine_sides.specs.Sides.{MovesMemory}

module _ {S : Type 0} (held : S → List ℕ) (honest : Type 0) where
  -- what the process keeps, whether its page came in or not: its caches, the words that its harts have reserved, and what its memory shows
  pub record KeepsRest (old new : SpaceValue S) : Type 0 where
    pub stays : new ≡ record old { memory = new.memory }
    pub process : new.memory.process ≡ old.memory.process
    pub caches : SameCaches old.memory new.memory
    pub reserved : new.memory.reserved ≡ old.memory.reserved
    pub memory : honest → memory_of held new.memory ≡ memory_of held old.memory

  -- the page is in the frame of its admission, mapped with its rights, as used and not changed
  abbrev pub Loads : AdmissionValue → SpaceValue S → SpaceValue S → Type 0
  Loads admission old new = MovesMemory (ComesIn held honest admission.frame admission.key.vpn) old new

  -- the page is where it was, and the admission comes back
  pub record DoesNotLoad (failures : S → ℕ) (admission back : AdmissionValue) (fault : PageInFault) (old new : SpaceValue S) : Type 0 where
    pub key : back.key ≡ admission.key
    pub why : admission.key.vpn < 2 ^ 20 → RefusesIn held honest failures admission.frame admission.key.vpn back.frame fault old.memory new.memory
    pub beyond : 2 ^ 20 ≤ admission.key.vpn → (fault ≡ NotAbsent) × ((back ≡ admission) × (new ≡ old))
    pub unmapped : SameEntries old.memory new.memory
    pub rest : KeepsRest old new
