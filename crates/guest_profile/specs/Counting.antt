-- How often instructions ran.
use Rattle.std.specs.Prelude.{ℕ, ◌+◌, ◌-◌, ◌^◌, ◌==◌, min, Bool, ◌&&◌, cond, Option, Some, is_some, nat_eq, unwrap_or}
use Rattle.std.specs.HashMap.{get}
use Rattle.guest_profile.specs.declared.insn_counts.InsnTally.{InsnTally}
use Rattle.guest_profile.specs.declared.insn_counts.InsnCounts.{InsnCounts}

-- the counts of the instruction at an address, where it ran
abbrev pub counts_of : InsnCounts → ℕ → Option InsnTally
counts_of counts at = get nat_eq counts.counts at

abbrev pub has_run : InsnCounts → ℕ → Bool
has_run counts at = is_some (counts_of counts at)

-- one more, up to the largest number that there is room for
abbrev pub more : ℕ → ℕ → ℕ
more count by = min (count + by) (2 ^ 64 - 1)

-- one more step; of an inner call, it counts as such too
abbrev pub one_more : Bool → Bool → InsnTally → InsnTally
one_more is_taken is_inner counts = record {
  steps = more counts.steps 1;
  taken = more counts.taken (cond is_taken 1 0);
  inner_steps = more counts.inner_steps (cond is_inner 1 0);
  inner_taken = more counts.inner_taken (cond (is_taken && is_inner) 1 0);
  word = counts.word;
}

-- the counts of an instruction that has not run
abbrev pub none_yet : ℕ → InsnTally
none_yet word = record { steps = 0; taken = 0; inner_steps = 0; inner_taken = 0; word = word }

-- the counts at an address after a step of the instruction at another one, or at this one
abbrev pub counted : ℕ → ℕ → Bool → Bool → ℕ → Option InsnTally → Option InsnTally
counted address word is_taken is_inner at counts = cond (at == address) (Some (one_more is_taken is_inner (unwrap_or counts (none_yet word)))) counts
