-- The references that the bytes of a trace give.
use Rattle.std.specs.Prelude.{ℕ, zero, suc, ◌+◌, ◌-◌, ◌^◌, Bool, true, false, min, List, [], ◌∷◌, length, Option, Some, None, if◌then◌else◌}
use Rattle.text_lines.specs.Text.{ahead, lines_of}
use Rattle.std.specs.Option.{option_map}
use Rattle.guest_strings.specs.References.{both, is_same_page}
use Rattle.guest_strings.specs.declared.reference.Reference.{Reference}
use Rattle.trace_lines.specs.Lines.{said, shows_text, format_behind, row_flaw_at, word_of}
use Rattle.trace_lines.specs.PageIds.{next_page}
use Rattle.trace_lines.specs.PageLines.{referred}
use Rattle.trace_lines.specs.PlainLines.{compression_at}
use Rattle.trace_lines.specs.declared.compression.Compression.{Compression}
use Rattle.trace_lines.specs.declared.format.Table.{Table}
use Rattle.trace_lines.specs.declared.format.TraceFormat.{TraceFormat}
use Rattle.trace_lines.specs.declared.format.TraceFormat.TheVariants.{Text, Csv, Columns, OracleGeneral, Lackey, DynamoRio}
use Rattle.trace_lines.specs.declared.rows.RowFlaw.{RowFlaw}
use Rattle.trace_lines.specs.declared.rows.RowFlaw.TheVariants.{Id, Op, Other}
use Rattle.trace_lines.specs.declared.trace_line.LineReferences.{LineReferences}
use Rattle.trace_lines.specs.declared.trace_line.TraceLine.{TraceLine}
use Rattle.trace_lines.specs.declared.trace_line.TraceLine.TheVariants.{Refers, Word, LeftOut, Names}
use Rattle.trace_files.specs.WordNumbers.{resolved, words_behind}

-- ---- what a trace gives

-- why it is not read to its end: lines and records are counted from 1; for a record that is cut off, its number of bytes is given
pub data Flaw : Type 0 where
  NoIds : Flaw
  BadLine : ℕ → Flaw
  BadId : ℕ → Flaw
  BadOp : ℕ → Flaw
  IsText : Flaw
  BadRecord : ℕ → ℕ → Flaw
  IsCompressed : Compression → Flaw

-- references one after another, to the end of the trace or to what is wrong in it
pub data Trace : Type 0 where
  Ends : Trace
  Breaks : Flaw → Trace
  Gives : Reference → Trace → Trace

-- the references that come before the end
abbrev pub told : Trace → List Reference
told Ends = []
told (Breaks flaw) = []
told (Gives reference rest) = reference ∷ told rest

-- what is wrong at the end, if anything is
abbrev pub flaw_at_end : Trace → Option Flaw
flaw_at_end Ends = None
flaw_at_end (Breaks flaw) = Some flaw
flaw_at_end (Gives reference rest) = flaw_at_end rest

-- a reference in front, if there is one
abbrev pub before : Option Reference → Trace → Trace
before None rest = rest
before (Some reference) rest = Gives reference rest

-- one line or record more; the number stays within 64 bits
abbrev pub counted : ℕ → ℕ
counted count = min (count + 1) (2 ^ 64 - 1)

-- ---- bytes cut into records of 24 bytes, the last of which may have fewer

-- so many bytes belong to the first record, and one more
unfoldable pub records_from : ℕ → List ℕ → List (List ℕ)
records_from more [] = []
records_from zero (byte ∷ bytes) = (byte ∷ []) ∷ records_from 23 bytes
records_from (suc more) (byte ∷ bytes) = ahead byte (records_from more bytes)

abbrev pub records_of : List ℕ → List (List ℕ)
records_of bytes = records_from 23 bytes

-- lines, which end with a line feed, or records
abbrev pub pieces_of : TraceFormat → List ℕ → List (List ℕ)
pieces_of Text bytes = lines_of bytes
pieces_of (Csv table) bytes = lines_of bytes
pieces_of (Columns table) bytes = lines_of bytes
pieces_of OracleGeneral bytes = records_of bytes
pieces_of Lackey bytes = lines_of bytes
pieces_of DynamoRio bytes = lines_of bytes

-- ---- what is wrong with one that says nothing

unfoldable pub record_flaw : ℕ → List ℕ → Flaw
record_flaw number bytes = if shows_text number bytes then IsText else BadRecord number (length bytes)

abbrev pub flaw_at : ℕ → RowFlaw → Flaw
flaw_at number Id = BadId number
flaw_at number Op = BadOp number
flaw_at number Other = BadLine number

unfoldable pub table_flaw : Table → ℕ → List ℕ → Flaw
table_flaw table number piece = flaw_at number (row_flaw_at table number piece)

abbrev pub piece_flaw : TraceFormat → ℕ → List ℕ → Flaw
piece_flaw Text number piece = BadLine number
piece_flaw (Csv table) number piece = NoIds
piece_flaw (Columns table) number piece = table_flaw table number piece
piece_flaw OracleGeneral number piece = record_flaw number piece
piece_flaw Lackey number piece = BadLine number
piece_flaw DynamoRio number piece = BadLine number

abbrev pub compressed_or : Flaw → Option Compression → Flaw
compressed_or flaw None = flaw
compressed_or flaw (Some compression) = IsCompressed compression

unfoldable pub flaw_of : TraceFormat → ℕ → List ℕ → Flaw
flaw_of format number piece = compressed_or (piece_flaw format number piece) (compression_at number piece)

-- ---- lines or records one after another

-- the reference to the next page
abbrev pub following : Reference → Reference
following reference = referred reference.is_written (next_page reference.page)

-- a reference, and those to so many next pages
unfoldable pub run_given : Reference → ℕ → Trace → Trace
run_given reference zero rest = Gives reference rest
run_given reference (suc more) rest = Gives reference (run_given (following reference) more rest)

-- what is left of these after the first one
abbrev pub left_of : Reference → ℕ → Option LineReferences
left_of reference zero = None
left_of reference (suc more) = Some (record { first = following reference; more = more })

abbrev pub referring : LineReferences → Trace → Trace
referring line rest = run_given line.first line.more rest

abbrev pub line_given : TraceLine → Trace → Trace
line_given (Refers line) rest = referring line rest
line_given (Word is_written) rest = rest
line_given LeftOut rest = rest
line_given (Names column) rest = rest

abbrev pub line_or : Flaw → Option TraceLine → Trace → Trace
line_or flaw None rest = Breaks flaw
line_or flaw (Some line) rest = line_given line rest

-- what a line says whose words are known, and the words after it
abbrev pub resolved_or : List (List ℕ) → List ℕ → Option TraceLine → Option TraceLine
resolved_or words word said = option_map (resolved words word) said

abbrev pub words_after : List (List ℕ) → List ℕ → Option TraceLine → List (List ℕ)
words_after words word None = words
words_after words word (Some line) = words_behind words word line

-- the lines or records after the first so many, in which these words came
unfoldable pub lines : TraceFormat → ℕ → List (List ℕ) → List (List ℕ) → Trace
lines format count words [] = Ends
lines format count words (piece ∷ pieces) = let line = said format (counted count) piece in
    let word = word_of format (counted count) piece in
    line_or (flaw_of format (counted count) piece) (resolved_or words word line)
    (lines (format_behind line format) (counted count) (words_after words word line) pieces)

-- Neighbours to one page are one reference. One that is held is given once it is known that the next is to another page, or that there is none.
unfoldable pub joined : Option Reference → Trace → Trace
joined held Ends = before held Ends
joined held (Breaks flaw) = Breaks flaw
joined None (Gives next rest) = joined (Some next) rest
joined (Some reference) (Gives next rest) = if is_same_page reference.page next.page then joined (Some (both reference next)) rest
    else Gives reference (joined (Some next) rest)

-- ---- whole traces

-- whether a trace gives addresses; otherwise it gives pages
abbrev pub is_of_addresses : TraceFormat → Bool
is_of_addresses Text = false
is_of_addresses (Csv table) = false
is_of_addresses (Columns table) = false
is_of_addresses OracleGeneral = false
is_of_addresses Lackey = true
is_of_addresses DynamoRio = true

-- references that are due in front, if there are any
abbrev pub due_before : Option LineReferences → Trace → Trace
due_before None rest = rest
due_before (Some line) rest = referring line rest

-- bytes after the first so many lines or records, in which these words came, with references that are due
abbrev pub due_from : TraceFormat → Option LineReferences → ℕ → List (List ℕ) → List ℕ → Trace
due_from format due count words bytes = due_before due (lines format count words (pieces_of format bytes))

-- and of a trace of addresses with one that is held
abbrev pub trace_from : TraceFormat → Option Reference → Option LineReferences → ℕ → List (List ℕ) → List ℕ → Trace
trace_from format held due count words bytes = if is_of_addresses format then joined held (due_from format due count words bytes) else due_from format due count words bytes

-- what the bytes of a whole file give
abbrev pub trace_of : TraceFormat → List ℕ → Trace
trace_of format bytes = trace_from format None None 0 [] bytes
