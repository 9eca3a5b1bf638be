use Rattle.std.proofs.Common.{◌≡◌, ◌+◌, ◌++◌, ◌∷◌, [], List, map, ℕ, arith}
use Rattle.std.specs.List.{range_with_len}
use Rattle.std.proofs.lemmas.List.FromFn.{map-range_with_len_more}
use Rattle.frame_pool.specs.FrameValue.{FrameValue, zero_frame}

-- after the frames below n, frame n comes next
pub map-zero_frame_more : (old new : List FrameValue) (frame : FrameValue) (n : ℕ) → old ≡ map zero_frame (range_with_len 0 n)
    → frame ≡ zero_frame n → new ≡ old ++ frame ∷ [] → new ≡ map zero_frame (range_with_len 0 (n + 1))
map-zero_frame_more old new frame n below is pushed =
    let more = map-range_with_len_more zero_frame 0 n n (omega arith) in cc
