-- A machine whose one process has all its pages, and was not ended by the machine.
use Rattle.std.specs.Prelude.{◌≡◌, ℕ, ⊤, Option, None, Some, slice_get}
use Rattle.page_store.specs.declared.state.PageState.TheVariants.{Purged}
use Rattle.machine_core.specs.Machine.{CoreValue}
use Rattle.space_core.specs.StandsFor.{SpaceValue, own_ending}
use Rattle.paged_target.specs.Shown.{stage_shown}

module _ {S : Type 0} where
  -- no page of it was given back
  abbrev pub IsIntact : CoreValue S → Type 0
  IsIntact core = (number : ℕ) → ¬ (stage_shown core number ≡ Some Purged)

  abbrev pub IsUnkilledIn : Option (SpaceValue S) → Type 0
  IsUnkilledIn None = ⊤
  IsUnkilledIn (Some side) = own_ending side.running.ending ≡ side.running.ending

  -- if it has ended, then by its own instructions
  abbrev pub IsUnkilled : CoreValue S → Type 0
  IsUnkilled core = IsUnkilledIn (slice_get core.processes 0)
