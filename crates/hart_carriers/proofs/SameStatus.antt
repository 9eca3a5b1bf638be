-- Both crates below say alike how far a process has come.
use Rattle.std.proofs.Common.{◌≡◌, refl}
use Rattle.held_machine.specs.HeldValue.{status_of}
use Rattle.hart_carriers.specs.Counts.{status_of as counted}
use Rattle.space_core.specs.StandsFor.{SpaceValue}

pub same_status : {S : Type 0} (space : SpaceValue S) → status_of space ≡ counted space
unfolding status_of counted
same_status space = refl
