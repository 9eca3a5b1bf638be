use Rattle.std.proofs.Common.{ap}
use Rattle.frame_pool.specs.FrameValue.{FrameValue, zero_bytes}
use Rattle.frame_pool.proofs.bare.FreeBytes.zeroed.Goals as goal

pub returns : goal.returns
unfolding zero_bytes
returns c = ap (λ bytes. let f : FrameValue = record { number = c.args.number; bytes = bytes } in f) c.in_ok-new.ensures.ok
