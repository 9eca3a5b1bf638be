-- What a process shares with the world around it, and what its environment calls keep.
use Rattle.std.specs.Prelude.{ℕ, ◌+◌, Bool, List, drop, Option}
use Rattle.std.specs.Option.{option_or}
use Rattle.std.specs.List.{list_any, position_from}

pub record Environment : Type 0 where
  -- the bytes of the input that no call has read yet
  pub input : List ℕ
  -- the bytes that were written so far
  pub output : List ℕ
  -- the break: the address where the data that a process may grow ends
  pub break_at : ℕ
  -- how many pages are mapped
  pub pages : ℕ
  -- of each hart that was started, by its number, whether it is live
  pub live : List Bool

-- how many harts are ever started
abbrev pub most_harts : ℕ
most_harts = 8

-- ---- which harts are live, by their marks

abbrev pub is_marked : Bool → Bool
is_marked mark = mark

-- whether some hart is live
unfoldable pub any_live : List Bool → Bool
any_live live = list_any is_marked live

-- the least live hart from a number on
unfoldable pub least_live_from : ℕ → List Bool → Option ℕ
least_live_from number live = position_from is_marked number (drop number live)

-- whose turn it is after a hart: the least live one above it, else the least live one
unfoldable pub next_live : ℕ → List Bool → Option ℕ
next_live hart live = option_or (least_live_from (hart + 1) live) (least_live_from 0 live)
