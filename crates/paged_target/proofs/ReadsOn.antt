-- Reads one after another.
use Rattle.std.proofs.Common.{IsSome, slice_get, refl, ◌∙◌}
use Rattle.machine_core.specs.Machine.{CoreValue}
use Rattle.paged_target.specs.Intact.{IsIntact}
use Rattle.paged_target.specs.Reads.{KeepsShown}

module _ {S : Type 0} where
  pub keeps_same : (core : CoreValue S) → IsSome (slice_get core.processes 0) → KeepsShown core core
  keeps_same core there = record { there = there; flat = refl; recorded = refl; purged = λ number e. e; unkilled = λ unkilled. unkilled }

  pub keeps_then : (old between new : CoreValue S) → KeepsShown old between → KeepsShown between new → KeepsShown old new
  keeps_then old between new first second = record {
    there = second.there;
    flat = second.flat ∙ first.flat;
    recorded = second.recorded ∙ first.recorded;
    purged = λ number e. first.purged number (second.purged number e);
    unkilled = λ unkilled. second.unkilled (first.unkilled unkilled);
  }

  pub keeps_intact : (old new : CoreValue S) → KeepsShown old new → IsIntact old → IsIntact new
  keeps_intact old new kept intact number given = intact number (kept.purged number given)
