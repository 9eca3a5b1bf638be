-- The numbers of frames that a table has.
use Rattle.std.specs.Prelude.{ℕ, zero, suc, ◌+◌, ◌*◌, ◌/◌, ◌^◌, ◌||◌, Bool, true, false, cond, nat_lt, min, max, List, [], ◌∷◌, map, Option, Some, None}
use Rattle.page_policies.specs.PolicyFrames.{most_policy_frames}
use Rattle.miss_counts.specs.declared.table_size.FootprintPart.{FootprintPart}
use Rattle.miss_counts.specs.declared.table_size.TableSize.{TableSize}
use Rattle.miss_counts.specs.declared.table_size.TableSize.TheVariants.{Frames, Part}

-- powers of two from this one on, so many at most, up to the first that is no less than the pages
abbrev pub doublings : ℕ → ℕ → ℕ → List ℕ
doublings pages power zero = []
doublings pages power (suc more) = 2 ^ power ∷ cond (nat_lt (2 ^ power) pages) (doublings pages (power + 1) more) []

-- 4, 8, 16 and so on, until each page has a frame, or to 4096
unfoldable pub usual_numbers : ℕ → List ℕ
usual_numbers pages = doublings pages 2 11

-- a part of the pages, rounded down: one frame at least, and at most as many as a policy may have
unfoldable pub part_of : ℕ → FootprintPart → ℕ
part_of pages part = min (max (pages * part.millionths / 1000000) 1) most_policy_frames

-- a number that is asked for, where the string has so many pages
abbrev pub frames_for : ℕ → TableSize → ℕ
frames_for pages (Frames frames) = frames.number
frames_for pages (Part part) = part_of pages part

abbrev pub is_part : TableSize → Bool
is_part (Frames frames) = false
is_part (Part part) = true

-- whether one of the numbers follows from the string's pages
abbrev pub has_part : List TableSize → Bool
has_part [] = false
has_part (size ∷ sizes) = is_part size || has_part sizes

-- the numbers that are asked for, or the usual ones
abbrev pub numbers_asked : ℕ → Option (List TableSize) → List ℕ
numbers_asked pages None = usual_numbers pages
numbers_asked pages (Some sizes) = map (frames_for pages) sizes
