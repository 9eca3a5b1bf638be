-- How long a hart's turn is.
use Rattle.std.specs.Prelude.{ℕ, ◌==◌, max, if◌then◌else◌}

-- what is left of a turn is what was left before a wait; a turn that begins has as many instructions as a slice, or one, for none
abbrev pub turn_of : ℕ → ℕ → ℕ
turn_of slice left = if left == 0 then max slice 1 else left
