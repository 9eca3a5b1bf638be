-- How many frames a list may serve.
use Rattle.std.specs.Prelude.{ℕ}

abbrev pub least_frames : ℕ
least_frames = 4

abbrev pub most_frames : ℕ
most_frames = 4096
