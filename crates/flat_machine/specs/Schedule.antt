-- Schedules: which hart ran each instruction, in order.
use Rattle.std.specs.Prelude.{◌≡◌, ℕ, ◌+◌, ◌-◌, ◌*◌, ◌<◌, ◌≤◌, ◌^◌, List, length, flat_map, replicate, slice_index_or, [], ◌∷◌, Bool, ◌==◌, nat_lt, if◌then◌else◌}
use Rattle.flat_machine.specs.declared.schedule.Turn.{Turn}

-- one hart number for each instruction
abbrev pub written_out : List Turn → List ℕ
written_out turns = flat_map (λ turn. replicate turn.count turn.hart) turns

-- how many turns a schedule may have
abbrev pub most_turns : ℕ
most_turns = 1000000

-- neighbours of one hart are one turn, until its count is the largest
pub record IsJoined (turns : List Turn) : Type 0 where
  pub few : length turns ≤ most_turns
  pub small : (k : ℕ) (d : Turn) → k < length turns → (slice_index_or turns k d).count ≤ 2 ^ 32 - 1
  pub some : (k : ℕ) (d : Turn) → k < length turns → 0 < (slice_index_or turns k d).count
  pub joined : (k : ℕ) (d : Turn) → k + 1 < length turns → (slice_index_or turns k d).hart ≡ (slice_index_or turns (k + 1) d).hart → (slice_index_or turns k d).count ≡ 2 ^ 32 - 1

-- how many instructions of a hart a turn still takes
abbrev pub rest_in : Turn → ℕ → ℕ
rest_in turn hart = if turn.hart == hart then (2 ^ 32 - 1) - turn.count else 0

-- the same of the last turn
unfoldable pub rest_in_last : List Turn → ℕ → ℕ
rest_in_last [] hart = 0
rest_in_last (turn ∷ []) hart = rest_in turn hart
rest_in_last (turn ∷ (next ∷ turns)) hart = rest_in_last (next ∷ turns) hart

-- how many instructions of a hart in a row fit: what the last turn takes, and a turn for each entry that is left
unfoldable pub room : List Turn → ℕ → ℕ
room turns hart = rest_in_last turns hart + (2 ^ 32 - 1) * (most_turns - length turns)

-- whether one more instruction of a hart fits
abbrev pub fits : List Turn → ℕ → Bool
fits turns hart = nat_lt 0 (room turns hart)
