use Rattle.std.proofs.Common.{◌≡◌, ◌-◌, ◌++◌, map}
use Rattle.miss_counts.specs.FrameNumbers.{doublings, usual_numbers}
use Rattle.miss_counts.proofs.frame_numbers.usual_frames.Given as goal

abbrev pub invariant-powers : goal.invariant-powers
invariant-powers l = usual_numbers l.pages ≡ map (λ f. f.number) l.all.items ++ doublings l.pages l.power (13 - l.power)
