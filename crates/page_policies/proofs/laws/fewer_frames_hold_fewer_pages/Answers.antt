use Rattle.page_policies.proofs.InclusionLaws.{inclusion}
use Rattle.page_policies.proofs.laws.fewer_frames_hold_fewer_pages.Goals as goal

pub returns : goal.returns
returns c = inclusion
