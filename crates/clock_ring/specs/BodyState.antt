-- The state that the fields of a body represent.
use Rattle.std.specs.Prelude.{◌≡◌, Some}
use Rattle.clock_policy.specs.ClockPro.{ClockState}
use Rattle.page_ring.specs.Index.{entries_of}
use Rattle.clock_ring.specs.declared.body.Body.{Body}
use Rattle.clock_moves.specs.declared.found.Found.{Found}
use Rattle.clock_ring.specs.RingState.{entry_at_node, hand_at}

abbrev pub state_of : Body → ClockState
state_of b = record {
  frames = b.frames;
  share = b.share;
  asked = b.asked;
  entries = entries_of b.ring.cells;
  cold_hand = hand_at b.ring.cells b.cold_hand;
  test_hand = hand_at b.ring.cells b.test_hand;
}

-- the node holds the entry
abbrev pub HoldsEntry : Body → Found → Type 0
HoldsEntry b f = entry_at_node b.ring.cells f.at ≡ Some f.entry
