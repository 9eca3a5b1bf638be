-- What the commands that read traces do with what they are asked for. What a trace contains is known where the bytes of its file are.
use Rattle.std.specs.Prelude.{◌≡◌, ℕ, ◌<◌, false, List, [], length, map, Option, IfSome}
use Rattle.std.specs.Option.{option_map}
use Rattle.std.specs.List.{AllZip}
use Rattle.guest_strings.specs.declared.reference.Reference.{Reference}
use Rattle.miss_counts.specs.FrameNumbers.{frames_for}
use Rattle.whole_strings.specs.PageCounts.{page_count}
use Rattle.miss_counts.specs.StringPages.{pages_of}
use Rattle.miss_counts.specs.Replayed.{HavePlayed, IsReplayed, IsReplayTable, RowsPlay}
use Rattle.miss_counts.specs.WrittenBack.{IsWrittenBack}
use Rattle.miss_counts.specs.declared.counts.PolicyCounts.{PolicyCounts}
use Rattle.miss_counts.specs.declared.rows.Rows.{Rows}
use Rattle.page_policies.specs.declared.frames.Frames.{Frames}
use Rattle.policies_requests.specs.declared.request.ReplayRequest.{ReplayRequest}
use Rattle.policies_requests.specs.declared.request.WriteBacksRequest.{WriteBacksRequest}
use Rattle.trace_files.specs.References.{Trace, trace_of}
use Rattle.trace_files.specs.ReferenceAnswers.{IsWhole, TellsReferences}
use Rattle.trace_lines.specs.declared.format.TraceFormat.{TraceFormat}

-- Something is so of a trace that a file holds, read in the format that was asked for. Which file a name opens no contract can name.
pub record OfFile {F : Type 0} (remaining : F → Option (List ℕ)) (format : TraceFormat) (Holds : Option Trace → Type 0) : Type 0 where
  pub file : F
  pub holds : Holds (option_map (trace_of format) (remaining file))

-- Each row has what the trace's string misses after the skipped references. The policies and the numbers of frames are those that were
-- asked for.
pub record ReplaysAsAsked (request : ReplayRequest) (rows : List PolicyCounts) (trace : Option Trace) : Type 0 where
  pub string : List Reference
  pub told : IfSome trace (IsWhole string)
  pub some : request.skip < length string
  pub table : IsReplayTable request.wanted request.skip string request.sizes.items rows

-- Each row has how many pages of the trace's string are written back, under the policies that were asked for, with the numbers of frames
-- that were asked for.
pub record WritesBackAsAsked (request : WriteBacksRequest) (rows : List PolicyCounts) (trace : Option Trace) : Type 0 where
  pub string : List Reference
  pub told : IfSome trace (IsWhole string)
  pub frames : List Frames
  pub numbered : map (λ f. f.number) frames ≡ map (frames_for (page_count (pages_of string))) request.sizes.items
  pub counted_each : AllZip (IsWrittenBack request.policies.items string) frames rows

-- So many of the next references of a trace were played.
pub record PlaysNext (first now : Option Trace) (s t : Rows) (count : ℕ) : Type 0 where
  pub references : List Reference
  pub told : TellsReferences references first now
  pub many : length references ≡ count
  pub played : RowsPlay references s t

-- What holds of rows that play a whole trace: a number of references is skipped, and what the others miss is counted.
abbrev pub StreamsAsAsked : ReplayRequest → Option Trace → Rows → List PolicyCounts → Type 0
StreamsAsAsked request trace rows counts = (frames : List Frames) → request.wanted.optimum ≡ false → HavePlayed request.wanted.policies.items frames [] [] rows
    → (string : List Reference) × (IfSome trace (IsWhole string) × ((request.skip < length string) × AllZip (IsReplayed request.wanted request.skip string) frames counts))

-- The same of a string that is there as a whole.
abbrev pub PlaysParts : ReplayRequest → List Reference → Rows → List PolicyCounts → Type 0
PlaysParts request string rows counts = (frames : List Frames) → request.wanted.optimum ≡ false → HavePlayed request.wanted.policies.items frames [] [] rows → AllZip (IsReplayed request.wanted request.skip string) frames counts
