use Rattle.std.specs.Prelude.{ℕ, List, replicate}

-- what callers see of a frame: its number, and its bytes in order
pub record FrameValue : Type 0 where
  pub number : ℕ
  pub bytes : List ℕ

-- the bytes of a page of zeros
unfoldable pub zero_bytes : List ℕ
zero_bytes = replicate 4096 0

-- the frame of this number as a new pool has it: its bytes are zeros
abbrev pub zero_frame : ℕ → FrameValue
zero_frame number = record { number = number; bytes = zero_bytes }
