use Rattle.whole_strings.proofs.OptimumInclusionLaws.{optimum_inclusion}
use Rattle.whole_strings.proofs.laws.optimum_keeps_fewer_in_fewer_frames.Goals as goal

pub returns : goal.returns
returns c = optimum_inclusion
