-- What a target may lack, though the flat process that it shows lacks nothing.
use Rattle.std.specs.Prelude.{ℕ, ◌↔◌, ⊤, List, [], ◌∷◌}
use Rattle.debug_core.specs.declared.target.TargetStep.{TargetStep}
use Rattle.debug_core.specs.declared.target.TargetStep.TheVariants.{Ran, Absent, Full}
use Rattle.debug_core.specs.declared.target.TargetFault.{TargetFault}
use Rattle.debug_core.specs.declared.target.TargetFault.TheVariants.{Purged, Device}

-- It can't read so many bytes from an address on, for this reason; it can't record one more step of a hart after steps of these
-- harts; or it can't have a page that the next step of a hart needs.
pub data Limit : Type 0 where
  CannotRead : ℕ → ℕ → TargetFault → Limit
  CannotRecord : List ℕ → ℕ → Limit
  CannotHave : ℕ → Limit

-- nothing is lacking
abbrev pub lacks_none : Limit → Type 0
lacks_none limit = ⊥

-- so many bytes from an address on can be read
abbrev pub CanRead : (Limit → Type 0) → ℕ → ℕ → Type 0
CanRead limits address count = (why : TargetFault) → ¬ limits (CannotRead address count why)

-- no reason that is tested before this one keeps them from being read
abbrev pub IsFirstFault : (Limit → Type 0) → ℕ → ℕ → TargetFault → Type 0
IsFirstFault limits address count Purged = ⊤
IsFirstFault limits address count Device = ¬ limits (CannotRead address count Purged)

-- what has come of a step of a hart, by the limits before it: where no more can be recorded, that comes first
abbrev pub HeedsLimits : TargetStep → ℕ → (Limit → Type 0) → Type 0
HeedsLimits Ran hart limits = ¬ limits (CannotRecord [] hart)
HeedsLimits Absent hart limits = (¬ limits (CannotRecord [] hart)) × limits (CannotHave hart)
HeedsLimits Full hart limits = limits (CannotRecord [] hart)

-- what can be recorded stays the same
abbrev pub KeepsRoom : (Limit → Type 0) → (Limit → Type 0) → Type 0
KeepsRoom old new = (harts : List ℕ) (hart : ℕ) → new (CannotRecord harts hart) ↔ old (CannotRecord harts hart)

-- what can be recorded is what could be recorded after a step of this hart
abbrev pub RecordsOne : ℕ → (Limit → Type 0) → (Limit → Type 0) → Type 0
RecordsOne ran old new = (harts : List ℕ) (hart : ℕ) → new (CannotRecord harts hart) ↔ old (CannotRecord (ran ∷ harts) hart)

-- what can be recorded after a step of a hart
abbrev pub LeavesRoom : TargetStep → ℕ → (Limit → Type 0) → (Limit → Type 0) → Type 0
LeavesRoom Ran hart old new = RecordsOne hart old new
LeavesRoom Absent hart old new = KeepsRoom old new
LeavesRoom Full hart old new = KeepsRoom old new
