-- What guests miss under each policy.
use Rattle.std.specs.Prelude.{◌≡◌, ℕ, List, Option, map}
use Rattle.std.specs.List.{AllZip}
use Rattle.guest_strings.specs.declared.reference.Reference.{Reference}
use Rattle.page_policies.specs.declared.frames.Frames.{Frames}
use Rattle.miss_counts.specs.Counted.{IsRow}
use Rattle.miss_counts.specs.FrameNumbers.{numbers_asked}
use Rattle.miss_counts.specs.StringPages.{pages_of}
use Rattle.whole_strings.specs.PageCounts.{page_count}
use Rattle.miss_counts.specs.declared.counts.PolicyCounts.{PolicyCounts}
use Rattle.miss_counts.specs.declared.policy_set.PolicySet.{PolicySet}
use Rattle.miss_counts.specs.declared.table_size.TableSize.{TableSize}

-- a row of such counts for each of the numbers of frames that are asked for, or for the usual ones, which a string of so many pages has
pub record IsTable (wanted : PolicySet) (string : List Reference) (sizes : Option (List TableSize)) (rows : List PolicyCounts) : Type 0 where
  pub frames : List Frames
  pub numbered : map (λ f. f.number) frames ≡ numbers_asked (page_count (pages_of string)) sizes
  pub counted_each : AllZip (IsRow wanted string) frames rows
