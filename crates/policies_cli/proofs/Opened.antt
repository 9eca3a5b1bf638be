-- What is so of a trace that was opened is so of its file.
use Rattle.std.specs.Prelude.{◌≡◌, ℕ, List, Option, IfSome}
use Rattle.std.specs.Io.Buffered.{reader_inner, reader_remaining}
use Rattle.std.specs.declared.io.buffered.BufReader.{BufReader}
use Rattle.std.proofs.Common.{subst}
use Rattle.clock_policy.specs.declared.key.Key.{Key}
use Rattle.trace_files.specs.References.{Trace}
use Rattle.trace_files.specs.ReferenceAnswers.{ArePages, IsAtFront, IsSample, to_come}
use Rattle.trace_files.specs.declared.trace_file.TraceFile.{TraceFile}
use Rattle.trace_lines.specs.declared.format.TraceFormat.{TraceFormat}
use Rattle.whole_strings.specs.Sampling.{is_sampled}
use Rattle.policies_cli.specs.Curves.{OfSample, OfString}
use Rattle.policies_cli.specs.Replays.{OfFile}

pub of_file : {F A : Type 0} (remaining : F → Option (List ℕ)) (format : TraceFormat) (trace : TraceFile (BufReader F A)) (Holds : Option Trace → Type 0)
    → IsAtFront remaining format trace → Holds (to_come (reader_remaining remaining) trace) → OfFile remaining format Holds
of_file remaining format trace Holds front holds = record { file = reader_inner trace.pieces.file; holds = subst Holds front holds }

pub of_string : {F : Type 0} (remaining : F → Option (List ℕ)) (format : TraceFormat) (string : List Key) (Holds : List Key → Type 0)
    → OfFile remaining format (λ trace. IfSome trace (ArePages string)) → Holds string → OfFile remaining format (OfString Holds)
of_string remaining format string Holds read holds = record { file = read.file; holds = (string, (read.holds, holds)) }

pub of_sample : {F : Type 0} (remaining : F → Option (List ℕ)) (format : TraceFormat) (one_in references : ℕ) (sample : List Key) (Holds : ℕ → List Key → Type 0)
    → OfFile remaining format (λ trace. IfSome trace (IsSample (is_sampled one_in) sample references)) → Holds references sample → OfFile remaining format (OfSample one_in Holds)
of_sample remaining format one_in references sample Holds read holds = record { file = read.file; holds = (references, (sample, (read.holds, holds))) }
