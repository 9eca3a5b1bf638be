-- A frame without room for a copy lends its bytes.
use Rattle.std.specs.Prelude.{ℕ, List}
use Rattle.std.specs.Borrow.{Lends, MutBor, Fml, Array, u8, RattleType}
use Rattle.std.specs.declared.sync.ledger.Ledger.{Ghosts}
use Rattle.frame_pool.specs.FrameValue.{FrameValue}
use Rattle.frame_pool.specs.Lending.{with_bytes}
use Rattle.frame_pool.specs.contracts.bare.BareFrame.{the_row}

-- the same of a frame whose room for a copy is elsewhere
abbrev pub LendsBareBytes : (L : RattleType) (g : Ghosts L.Denot) → MutBor FrameValue → MutBor (List ℕ) → Fml
LendsBareBytes L g frame r = Lends (the_row L g) (Array u8 4096) frame r (with_bytes frame.now)
