-- What is written of the string of guests.
use Rattle.std.specs.Prelude.{◌≡◌, ℕ, ◌+◌, ◌-◌, ◌^◌, min, List, [], ◌∷◌, ◌++◌, length, Option}
use Rattle.std.specs.Io.KnownBytes.{Appends}
use Rattle.std.specs.List.{flat_map}
use Rattle.flat_machine.specs.Process.{Process}
use Rattle.guest_strings.specs.Slices.{guest_string}
use Rattle.guest_strings.specs.declared.reference.Reference.{Reference}
use Rattle.miss_counts.specs.StringPages.{pages_of}
use Rattle.policies_requests.specs.declared.request.TraceRequest.{TraceRequest}
use Rattle.trace_files.specs.Written.{csv_line, header, records, reference_line}
use Rattle.trace_lines.specs.declared.format.TraceFormat.{TraceFormat}
use Rattle.trace_lines.specs.declared.format.TraceFormat.TheVariants.{Text, Csv, Columns, OracleGeneral, Lackey, DynamoRio}
use Rattle.policies_cli.specs.Asked.{AreGuests}

-- the time of the next reference; the greatest stays
abbrev pub later : ℕ → ℕ
later time = min (time + 1) (2 ^ 64 - 1)

-- the rows of a table after one of this time
abbrev pub rows_behind : ℕ → List Reference → List ℕ
rows_behind time [] = []
rows_behind time (reference ∷ references) = csv_line (later time) reference.page ++ rows_behind (later time) references

-- references in a format that is written; formats of addresses are only read, and the text format replaces them
abbrev pub trace_text : TraceFormat → List Reference → List ℕ
trace_text Text references = flat_map reference_line references
trace_text Lackey references = flat_map reference_line references
trace_text DynamoRio references = flat_map reference_line references
trace_text (Csv table) references = (header ++ 10 ∷ []) ++ rows_behind 0 references
trace_text (Columns table) references = (header ++ 10 ∷ []) ++ rows_behind 0 references
trace_text OracleGeneral references = records (length references) 0 (pages_of references)

-- The guests' string is written, of the references that were asked for, by slices of so many instructions as were asked for, to the limit
-- and in the format that were asked for.
pub record TracesAsAsked (gives : List ℕ → List ℕ → Type 0) (request : TraceRequest) (old new : Option (List ℕ)) : Type 0 where
  pub processes : List Process
  pub guests : AreGuests gives request.guest processes
  pub written : Appends old new (trace_text request.format (guest_string request.guest.accesses request.guest.slice request.guest.limit processes))
