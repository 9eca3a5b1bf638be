-- Runs by turns: after a step of a hart it is the turn of the least live hart above it, else of the least live one.
use Rattle.std.specs.Prelude.{ℕ, zero, suc, List, [], ◌∷◌, Option, Some, option_map, option_and_then, unwrap_or, if◌then◌else◌}
use Rattle.env_calls.specs.Environment.{next_live}
use Rattle.flat_machine.specs.Process.{Process, is_live, flat_step}

-- whose turn it is after a hart's
abbrev pub turn_after : ℕ → Process → ℕ
turn_after hart process = unwrap_or (next_live hart process.environment.live) hart

-- whose turn it is at first: hart 0's, where it is live
abbrev pub first_turn : Process → ℕ
first_turn process = if is_live 0 process then 0 else turn_after 0 process

-- after so many steps from a hart's turn on: whose turn it is, and the process
unfoldable pub by_turns : ℕ → ℕ → Process → Option (ℕ × Process)
by_turns zero hart process = Some (hart, process)
by_turns (suc count) hart process = option_and_then (λ next. by_turns count (turn_after hart next) next) (flat_step hart process)

-- the harts of these steps, in order
unfoldable pub turns : ℕ → ℕ → Process → List ℕ
turns zero hart process = []
turns (suc count) hart process = hart ∷ unwrap_or (option_map (λ next. turns count (turn_after hart next) next) (flat_step hart process)) []
