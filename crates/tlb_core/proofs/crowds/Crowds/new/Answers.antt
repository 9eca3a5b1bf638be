use Rattle.std.proofs.Common.{refl}
use Rattle.tlb_core.proofs.CrowdLaws.{none_counted}
use Rattle.tlb_core.proofs.crowds.Crowds.new.Goals as goal

pub returns : goal.returns
returns c = none_counted _ refl
