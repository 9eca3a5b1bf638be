use Rattle.std.proofs.Common.{◌≡◌, drop, max}
use Rattle.whole_strings.specs.OptimumCounts.{deepest, shared_depth}
use Rattle.whole_strings.proofs.several_frames.shared_depth.Given as goal

abbrev pub invariant-frames : goal.invariant-frames
invariant-frames l = shared_depth l.frames ≡ max l.depth (deepest l.frames (drop l.number-index l.frames))
