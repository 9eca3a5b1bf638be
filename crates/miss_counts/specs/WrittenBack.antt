-- How many pages each policy writes back.
use Rattle.std.specs.Prelude.{List, length, None}
use Rattle.page_policies.specs.declared.frames.Frames.{Frames}
use Rattle.guest_strings.specs.declared.reference.Reference.{Reference}
use Rattle.miss_counts.specs.Counted.{IsCounted}
use Rattle.miss_counts.specs.declared.counts.PolicyCounts.{PolicyCounts}
use Rattle.miss_counts.specs.declared.policy_name.PolicyName.{PolicyName}
use Rattle.miss_counts.specs.WriteBacks.{write_backs}

-- a row of what each policy that is asked for writes back of a string with so many frames
unfoldable pub IsWrittenBack : List PolicyName → List Reference → Frames → PolicyCounts → Type 0
IsWrittenBack policies string frames row = IsCounted (λ misses. write_backs misses string) policies (length string) None frames row
