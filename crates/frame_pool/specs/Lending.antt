-- A frame lends its bytes.
use Rattle.std.specs.Prelude.{ℕ, List}
use Rattle.std.specs.Borrow.{Lends, MutBor, Fml, Array, u8, RattleType}
use Rattle.std.specs.declared.sync.ledger.Ledger.{Ghosts}
use Rattle.frame_pool.specs.FrameValue.{FrameValue}
use Rattle.frame_pool.specs.contracts.frame.Frame.{the_row}

-- the frame with these bytes
abbrev pub with_bytes : FrameValue → List ℕ → FrameValue
with_bytes frame bytes = record frame { bytes = bytes }

-- once the borrow ends, the frame's bytes are those last written through r
abbrev pub LendsBytes : (L : RattleType) (g : Ghosts L.Denot) → MutBor FrameValue → MutBor (List ℕ) → Fml
LendsBytes L g frame r = Lends (the_row L g) (Array u8 4096) frame r (with_bytes frame.now)
