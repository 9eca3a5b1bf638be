-- What holds of every state that the calls reach from an empty list.
use Rattle.std.specs.Prelude.{◌≡◌, ◌+◌, ◌*◌, ◌≤◌, ◌<◌, List, length, Option, Some, None}
use Rattle.clock_policy.specs.declared.key.Key.{Key}
use Rattle.clock_policy.specs.declared.entry.Entry.{Entry}
use Rattle.clock_policy.specs.ClockPro.{ClockState, number, has_key, hot_count, cold_count, shadow_count}
use Rattle.clock_policy.specs.FrameCounts.{least_frames, most_frames}

-- the hand stands on an entry of the list, or on none where the list is empty
abbrev pub RestsIn : List Entry → Option Key → Type 0
RestsIn l None = length l ≡ 0
RestsIn l (Some k) = 1 ≤ number (has_key k) l

-- no more resident entries and no more shadows than frames
pub record HasFewEntries (s : ClockState) : Type 0 where
  pub resident : hot_count s.entries + cold_count s.entries ≤ s.frames
  pub shadows : shadow_count s.entries ≤ s.frames

pub record Lawful (s : ClockState) : Type 0 where
  pub least : least_frames ≤ s.frames
  pub most : s.frames ≤ most_frames
  pub share_low : 1 ≤ s.share
  pub share_high : s.share < s.frames
  pub few_asked : s.asked ≤ 3 * s.frames
  pub within : length s.entries ≤ 2 * s.frames
  pub distinct : (k : Key) → number (has_key k) s.entries ≤ 1
  pub few : HasFewEntries s
  pub cold_hand_rests : RestsIn s.entries s.cold_hand
  pub test_hand_rests : RestsIn s.entries s.test_hand
