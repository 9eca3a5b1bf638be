-- What reads of a machine's memory leave.
use Rattle.std.specs.Prelude.{◌≡◌, ℕ, IsSome, Some, slice_get}
use Rattle.page_store.specs.declared.state.PageState.TheVariants.{Purged}
use Rattle.machine_core.specs.Machine.{CoreValue}
use Rattle.paged_target.specs.Intact.{IsUnkilled}
use Rattle.paged_target.specs.Recording.{recorded}
use Rattle.paged_target.specs.Shown.{flat_at, stage_shown}

-- the same process is shown and recorded, no page was given back, and the machine did not end it
pub record KeepsShown {S : Type 0} (old new : CoreValue S) : Type 0 where
  pub there : IsSome (slice_get new.processes 0)
  pub flat : flat_at new ≡ flat_at old
  pub recorded : recorded new ≡ recorded old
  pub purged : (number : ℕ) → stage_shown new number ≡ Some Purged → stage_shown old number ≡ Some Purged
  pub unkilled : IsUnkilled old → IsUnkilled new
