use Rattle.std.proofs.Common.{arith}
use Rattle.frame_pool.proofs.Frames.{map-zero_frame_more}
use Rattle.frame_pool.proofs.pool.FramePool.new.Goals as goal

pub loop-number-preserved : goal.loop-number-preserved
loop-number-preserved g c =
    record {
      frames = map-zero_frame_more _ _ _ _ c.loop-number.invariant.frames c.in_ok-zeroed.ensures c.push_reserved.ensures.items;
      len = omega arith;
      room = omega arith;
    }
