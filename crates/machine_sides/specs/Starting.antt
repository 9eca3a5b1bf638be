-- A process begins: the pages of its image and of its stack are mapped, and none was brought in.
use Rattle.std.specs.Prelude.{◌≡◌, ℕ, false, []}
use Rattle.elf_image.specs.Start.{Start}
use Rattle.flat_machine.specs.Process.{opening, opening_pages}
use Rattle.page_memory.specs.Reservations.{none_reserved}
use Rattle.paged_memory.specs.Fresh.{HasFresh, HasNoTable, HasOneCache}
use Rattle.space_core.specs.RunningValue.{beside}
use Rattle.space_core.specs.StandsFor.{SpaceValue}

module _ {S : Type 0} where
  -- the process of a number before its first instruction: the pages of its image and of its stack are mapped, none was brought in, and
  -- none given back; and its harts have reserved no word
  pub record Begins (number : ℕ) (start : Start) (process : SpaceValue S) : Type 0 where
    pub image : process.image ≡ start.image
    pub input : process.input ≡ start.input
    pub running : process.running ≡ beside (opening start.image start.input)
    pub schedule : process.schedule ≡ []
    pub numbered : process.memory.process ≡ number
    pub pages : HasFresh (opening_pages start.image.pages) process.memory
    pub tables : HasNoTable process.memory
    pub caches : HasOneCache process.memory
    pub reserved : process.memory.reserved ≡ none_reserved
    pub purged : process.purged ≡ false
