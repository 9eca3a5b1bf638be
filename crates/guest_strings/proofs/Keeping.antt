-- What is kept of what steps refer to.
use Rattle.std.proofs.Common.{◌≡◌, List, [], refl}
use Rattle.guest_strings.specs.declared.access_kinds.AccessKinds.{AccessKinds}
use Rattle.guest_strings.specs.declared.access_kinds.AccessKinds.TheVariants.{All, Instructions, Data}
use Rattle.guest_strings.specs.References.{kept}

-- of nothing, nothing
pub kept_none : (accesses : AccessKinds) → kept accesses [] ≡ []
kept_none All = refl
kept_none Instructions = refl
kept_none Data = refl
