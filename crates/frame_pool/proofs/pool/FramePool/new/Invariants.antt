use Rattle.std.proofs.Common.{◌≡◌, vec_len, vec_capacity, map}
use Rattle.std.specs.List.{range_with_len}
use Rattle.frame_pool.specs.FrameValue.{zero_frame}
use Rattle.frame_pool.proofs.pool.FramePool.new.Given as goal

abbrev pub invariant-loop-number : goal.invariant-loop-number
invariant-loop-number g l =
    record {
      frames : l.free.items ≡ map zero_frame (range_with_len 0 l.number);
      len : vec_len l.free ≡ l.number;
      room : vec_capacity l.free ≡ l.size;
    }
