-- Counts of a string whose first references are skipped: they are played, and what they miss is left out.
use Rattle.std.specs.Prelude.{◌≡◌, ℕ, ◌+◌, ◌-◌, ◌<◌, ◌≤◌, ◌^◌, ◌++◌, true, false, List, [], length, map, take, Option, Some, None}
use Rattle.std.specs.List.{AllZip}
use Rattle.guest_strings.specs.declared.reference.Reference.{Reference}
use Rattle.page_policies.specs.Optimal.{optimal_misses}
use Rattle.page_policies.specs.declared.frames.Frames.{Frames}
use Rattle.miss_counts.specs.Counted.{IsCounted, asked, misses_of, serves}
use Rattle.miss_counts.specs.FrameNumbers.{frames_for}
use Rattle.whole_strings.specs.PageCounts.{page_count}
use Rattle.miss_counts.specs.StringPages.{pages_of}
use Rattle.miss_counts.specs.contracts.any_player.AnyPlayerCounting.TheImpl as any
use Rattle.miss_counts.specs.declared.any_player.AnyPlayer.{AnyPlayer}
use Rattle.miss_counts.specs.declared.counts.PolicyCounts.{PolicyCounts}
use Rattle.miss_counts.specs.declared.policy_name.PolicyName.{PolicyName}
use Rattle.miss_counts.specs.declared.policy_set.PolicySet.{PolicySet}
use Rattle.miss_counts.specs.declared.row.NamedPlayer.{NamedPlayer}
use Rattle.miss_counts.specs.declared.row.Row.{Row}
use Rattle.miss_counts.specs.declared.rows.Rows.{Rows}
use Rattle.miss_counts.specs.declared.table_size.TableSize.{TableSize}

-- what is missed of a string after its first so many references, by what is missed of strings
abbrev pub missed_behind : ℕ → List Reference → (List Reference → ℕ) → ℕ
missed_behind skip string misses = misses string - misses (take skip string)

-- a row of what each policy that is asked for misses of a string after its first so many references, and of what the optimum misses
-- of the whole, where it is asked for
unfoldable pub IsReplayed : PolicySet → ℕ → List Reference → Frames → PolicyCounts → Type 0
IsReplayed wanted skip string frames row =
    IsCounted (missed_behind skip string) wanted.policies.items (length string - skip) (asked wanted.optimum (optimal_misses frames.number (pages_of string))) frames row

-- a row of such counts for each of the numbers of frames that are asked for, which a string of so many pages has
pub record IsReplayTable (wanted : PolicySet) (skip : ℕ) (string : List Reference) (sizes : List TableSize) (rows : List PolicyCounts) : Type 0 where
  pub frames : List Frames
  pub numbered : map (λ f. f.number) frames ≡ map (frames_for (page_count (pages_of string))) sizes
  pub counted_each : AllZip (IsReplayed wanted skip string) frames rows

-- ---- rows that count as references come

-- a policy has counted what it misses of what was played, after what was skipped
pub record HasCounted (frames : ℕ) (policy : PolicyName) (skipped played : List Reference) (player : AnyPlayer) : Type 0 where
  pub served : serves policy frames ≡ true
  pub few : any.all-value.it player [] ≤ length played
  pub counts : (string : List Reference) → misses_of policy frames skipped + any.all-value.it player string ≡ misses_of policy frames (skipped ++ (played ++ string))

-- nothing is counted of one that serves other numbers of frames
abbrev pub CountsWhereServed : ℕ → PolicyName → List Reference → List Reference → Option AnyPlayer → Type 0
CountsWhereServed frames policy skipped played None = serves policy frames ≡ false
CountsWhereServed frames policy skipped played (Some player) = HasCounted frames policy skipped played player

abbrev pub CountsByName : ℕ → List Reference → List Reference → PolicyName → NamedPlayer AnyPlayer → Type 0
CountsByName frames skipped played policy named = (named.policy ≡ policy) × CountsWhereServed frames policy skipped played named.player

-- a row of these policies has played so much, after what was skipped
pub record HasPlayed (policies : List PolicyName) (skipped played : List Reference) (frames : Frames) (row : Row) : Type 0 where
  pub with_frames : row.frames ≡ frames
  pub of_references : row.references ≡ length played
  pub of_policies : AllZip (CountsByName frames.number skipped played) policies row.players.items

-- and so has the row of each number of frames
unfoldable pub HavePlayed : List PolicyName → List Frames → List Reference → List Reference → Rows → Type 0
HavePlayed policies frames skipped played rows = AllZip (HasPlayed policies skipped played) frames rows.rows.items

-- Some pages are played, as long as the counts fit.
abbrev pub RowPlays : List Reference → Row → Row → Type 0
RowPlays pages s t = (policies : List PolicyName) (skipped played : List Reference) (frames : Frames) → length (played ++ pages) < 2 ^ 64 → HasPlayed policies skipped played frames s → HasPlayed policies skipped (played ++ pages) frames t

unfoldable pub RowsPlay : List Reference → Rows → Rows → Type 0
RowsPlay pages s t = (policies : List PolicyName) (frames : List Frames) (skipped played : List Reference) → length (played ++ pages) < 2 ^ 64 → HavePlayed policies frames skipped played s → HavePlayed policies frames skipped (played ++ pages) t

-- What was played is skipped.
abbrev pub RowSkips : Row → Row → Type 0
RowSkips s t = (policies : List PolicyName) (skipped played : List Reference) (frames : Frames) → HasPlayed policies skipped played frames s → HasPlayed policies (skipped ++ played) [] frames t

unfoldable pub RowsSkip : Rows → Rows → Type 0
RowsSkip s t = (policies : List PolicyName) (frames : List Frames) (skipped played : List Reference) → HavePlayed policies frames skipped played s → HavePlayed policies frames (skipped ++ played) [] t

-- What is counted is what the policies miss.
abbrev pub TellsPlayed : List PolicyName → List Reference → List Reference → Frames → PolicyCounts → Type 0
TellsPlayed policies skipped played frames counts = IsCounted (missed_behind (length skipped) (skipped ++ played)) policies (length played) None frames counts

abbrev pub RowTells : Row → PolicyCounts → Type 0
RowTells row counts = (policies : List PolicyName) (skipped played : List Reference) (frames : Frames) → HasPlayed policies skipped played frames row → TellsPlayed policies skipped played frames counts

unfoldable pub RowsTell : Rows → List PolicyCounts → Type 0
RowsTell rows counts = (policies : List PolicyName) (frames : List Frames) (skipped played : List Reference) → HavePlayed policies frames skipped played rows → AllZip (TellsPlayed policies skipped played) frames counts
