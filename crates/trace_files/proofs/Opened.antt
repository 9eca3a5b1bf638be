-- What a trace tells that was just opened.
use Rattle.std.proofs.Common.{◌≡◌, ◌∙◌, ℕ, ◌==◌, Bool, false, cond, List, [], Option, None, Some, ap, arith, refl, sym}
use Rattle.std.proofs.lemmas.Bool.Decides.{nat_tests}
use Rattle.std.specs.Io.Buffered.{reader_buffer, reader_capacity, reader_inner, reader_remaining}
use Rattle.std.specs.Io.KnownBytes.{prepend_known}
use Rattle.std.specs.Option.{option_map}
use Rattle.std.specs.declared.io.buffered.BufReader.{BufReader}
use Rattle.trace_files.specs.References.{trace_of}
use Rattle.trace_files.specs.ReferenceAnswers.{IsAtFront, to_come}
use Rattle.trace_lines.specs.declared.format.TraceFormat.{TraceFormat}
use Rattle.trace_files.specs.declared.trace_file.TraceFile.{TraceFile}

-- a reader that holds nothing yet gives what the reader below it does
holds_nothing : {F A : Type 0} (remaining : F → Option (List ℕ)) (r : BufReader F A) → reader_buffer r ≡ [] → reader_capacity r ≡ 65536 → reader_remaining remaining r ≡ remaining (reader_inner r)
holds_nothing remaining r none some =
    ap (λ (b : Bool). cond b None (prepend_known (reader_buffer r) (remaining r.inner))) (positive (reader_capacity r) some)
    ∙ ap (λ (l : List ℕ). prepend_known l (remaining r.inner)) none
    ∙ nothing_ahead (remaining r.inner)
  where
    positive : (n : ℕ) → n ≡ 65536 → (n == 0) ≡ false
    positive n h = grind (arith, nat_tests)

    nothing_ahead : (known : Option (List ℕ)) → prepend_known [] known ≡ known
    nothing_ahead None = refl
    nothing_ahead (Some bytes) = refl

pub at_front : {F A : Type 0} (remaining : F → Option (List ℕ)) (format : TraceFormat) (r : BufReader F A) (trace : TraceFile (BufReader F A)) → to_come (reader_remaining remaining) trace ≡ option_map (trace_of format) (reader_remaining remaining r)
    → trace.pieces.file ≡ r → reader_buffer r ≡ [] → reader_capacity r ≡ 65536 → IsAtFront remaining format trace
at_front {F = F} {A = A} remaining format r trace told is none some =
    told ∙ ap (option_map (trace_of format)) (holds_nothing remaining r none some ∙ ap (λ (b : BufReader F A). remaining (reader_inner b)) (sym is))
