-- How many frames a policy may have.
use Rattle.std.specs.Prelude.{ℕ}

abbrev pub most_policy_frames : ℕ
most_policy_frames = 16777216
