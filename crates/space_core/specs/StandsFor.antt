-- A process on paged memory represents a flat process: the one that the flat run of its schedule leaves.
use Rattle.std.specs.Prelude.{◌≡◌, ℕ, Bool, Option, Some, None, List, length}
use Rattle.page_memory.specs.Memory.{Memory}
use Rattle.elf_image.specs.Image.{ImageContent}
use Rattle.decoded_pages.specs.declared.pages.DecodedPages.{DecodedPages}
use Rattle.decoded_pages.specs.Code.{ShowsAll}
use Rattle.paged_memory.specs.Paged.{PagedValue, memory_of}
pub use Rattle.paged_memory.specs.Showing.{rights_of, is_purged}
use Rattle.paged_memory.specs.Showing.{ShowsFlat}
use Rattle.paged_memory.specs.Whole.{harts_in}
use Rattle.flat_machine.specs.declared.end.End.{End}
use Rattle.flat_machine.specs.declared.end.End.TheVariants.{Exited, Trapped, Killed}
use Rattle.flat_machine.specs.declared.schedule.Turn.{Turn}
use Rattle.flat_machine.specs.Process.{Process, opening, flat_run}
use Rattle.flat_machine.specs.Schedule.{written_out}
use Rattle.space_core.specs.RunningValue.{RunningValue, with_memory}

-- what it was started from, what it is beside its memory, the instructions that ran, its memory, and whether it has given all its
-- pages back
pub record SpaceValue (S : Type 0) : Type 0 where
  pub image : ImageContent
  pub input : List ℕ
  pub running : RunningValue
  pub schedule : List Turn
  pub memory : PagedValue S
  pub purged : Bool

-- how a process ended by its own instructions, if it did: one that the machine ended did not
abbrev pub own_ending : Option End → Option End
own_ending None = None
own_ending (Some (Exited status)) = Some (Exited status)
own_ending (Some (Trapped hart cause pc value)) = Some (Trapped hart cause pc value)
own_ending (Some (Killed cause)) = None

-- the flat process with the same harts and environment, which goes on where the machine ended this one, on a memory
abbrev pub flat_with : RunningValue → Memory → Process
flat_with running memory = with_memory (record running { ending = own_ending running.ending }) memory

module _ {S : Type 0} where
  -- with slots that hold this, it represents the flat process with this memory: the schedule's run leaves that process, its memory
  -- shows that memory, and until an ending no page is given up
  pub record StandsFor (held : S → List ℕ) (space : SpaceValue S) : Type 0 where
    pub memory : Memory
    pub ran : flat_run (written_out space.schedule) (opening space.image space.input) ≡ Some (flat_with space.running memory)
    pub shows : ShowsFlat held space.memory memory
    pub still : space.running.ending ≡ None → memory ≡ memory_of held space.memory

  -- where slots are honest, this holds of the flat process that its schedule leaves, whatever process that is
  abbrev pub OfFlat : Type 0 → (Process → Type 0) → SpaceValue S → Type 0
  OfFlat honest P space = honest → (flat : Process) → flat_run (written_out space.schedule) (opening space.image space.input) ≡ Some flat → P flat

  -- where slots are honest it represents a flat process, and each hart that was started has its cache
  pub record IsSpace (held : S → List ℕ) (honest : Type 0) (space : SpaceValue S) : Type 0 where
    pub stands : honest → StandsFor held space
    pub cached : harts_in space.memory ≡ length space.running.harts

  -- and until an ending what was decoded of its pages is what its memory has
  pub record IsDecodedSpace (held : S → List ℕ) (honest : Type 0) (decoded : DecodedPages) (value : SpaceValue S) : Type 0 where
    pub space : IsSpace held honest value
    pub code : value.running.ending ≡ None → ShowsAll decoded (memory_of held value.memory)
