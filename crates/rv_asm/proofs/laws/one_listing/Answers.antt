use Rattle.rv_asm.proofs.OneListing.{one_listing}
use Rattle.rv_asm.proofs.laws.one_listing.Goals as goal

pub returns : goal.returns
returns c = one_listing
