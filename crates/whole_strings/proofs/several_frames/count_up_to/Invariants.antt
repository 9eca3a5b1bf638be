use Rattle.whole_strings.proofs.OptimumCountLaws.{UpTo}
use Rattle.whole_strings.proofs.several_frames.count_up_to.Given as goal

abbrev pub invariant-frames : goal.invariant-frames
invariant-frames l = UpTo l.most l.count l.number-index l.frames
