-- How far straight lines go in a page.
use Rattle.std.specs.Prelude.{ℕ, ◌+◌, ◌<◌, ◌≤◌, List, slice_index_or}
use Rattle.decoded_pages.specs.declared.instruction.DecodedInstruction.{DecodedInstruction}
use Rattle.decoded_pages.specs.Classes.{class_of, EndsLine}

-- from an instruction on, each line ends where it does
abbrev pub LinesFrom : ℕ → List DecodedInstruction → List ℕ → Type 0
LinesFrom first instructions ends = (place : ℕ) (d : DecodedInstruction) (e : ℕ) → first ≤ place → place < 1024
    → EndsLine (class_of (slice_index_or instructions place d).operation) place (slice_index_or ends place e) (slice_index_or ends (place + 1) e)
