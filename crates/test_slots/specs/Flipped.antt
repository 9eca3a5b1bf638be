use Rattle.std.specs.Prelude.{ℕ, List, bit_xor, slice_index, slice_set}

-- a page, but for bit 0 of its first byte
unfoldable pub flipped : List ℕ → List ℕ
flipped page = slice_set page 0 (bit_xor (slice_index page 0) 1)
