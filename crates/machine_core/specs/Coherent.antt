-- Consistency of the pages, tables and caches of each process at any time.
use Rattle.std.specs.Prelude.{◌≡◌, ℕ, List, length, Some, slice_get}
use Rattle.paged_memory.specs.Coheres.{Coheres}
use Rattle.paged_memory.specs.Whole.{harts_in}
use Rattle.space_core.specs.StandsFor.{SpaceValue, StandsFor}

module _ {S : Type 0} (held : S → List ℕ) (honest : Type 0) where
  -- it represents its flat process where slots are honest; each started hart has its cache; and its pages, tables and
  -- caches are consistent
  pub record IsCoherent (space : SpaceValue S) : Type 0 where
    pub stands : honest → StandsFor held space
    pub harts : harts_in space.memory ≡ length space.running.harts
    pub memory : Coheres held honest space.memory

  unfoldable pub EachCoherent : List (SpaceValue S) → Type 0
  EachCoherent processes = (number : ℕ) (process : SpaceValue S) → slice_get processes number ≡ Some process → IsCoherent process
