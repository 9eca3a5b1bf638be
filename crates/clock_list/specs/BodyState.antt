-- The state that the fields of a body represent.
use Rattle.std.specs.Prelude.{◌≡◌, ◌<◌, length}
use Rattle.clock_moves.specs.declared.found.Found.{Found}
use Rattle.clock_list.specs.declared.body.Body.{Body}
use Rattle.clock_policy.specs.ClockPro.{ClockState, place}

abbrev pub state_of : Body → ClockState
state_of b = record {
  frames = b.frames;
  share = b.share;
  asked = b.asked;
  entries = b.entries.items;
  cold_hand = b.cold_hand;
  test_hand = b.test_hand;
}

-- the entry's page is at this place
abbrev pub HoldsEntry : Body → Found → Type 0
HoldsEntry b f = (f.at ≡ place f.entry.key b.entries.items) × (f.at < length b.entries.items)
