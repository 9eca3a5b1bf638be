-- A pool of frames, as callers see it.
use Rattle.std.specs.Prelude.{ℕ, List, map}
use Rattle.std.specs.List.{range_with_len}
use Rattle.frame_pool.specs.FrameValue.{FrameValue, zero_frame}

-- what callers see of a pool: the frames that are free, and of how many frames it was made
pub record FramePoolValue : Type 0 where
  pub free : List FrameValue
  pub size : ℕ

-- a new pool of this size: its frames are numbered from 0, each number standing once, and all are free
abbrev pub full_pool : ℕ → FramePoolValue
full_pool size = record { free = map zero_frame (range_with_len 0 size); size = size }
