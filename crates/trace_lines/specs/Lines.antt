-- What lines and records of traces say.
use Rattle.std.specs.Prelude.{ℕ, ◌==◌, ◌&&◌, ◌||◌, Bool, true, false, nat_le, nat_lt, List, [], unwrap_or, Option, Some, None, if◌then◌else◌}
use Rattle.std.specs.Option.{is_some, option_map}
use Rattle.std.specs.List.{list_all}
use Rattle.clock_policy.specs.declared.key.Key.{Key}
use Rattle.guest_strings.specs.declared.reference.Reference.{Reference}
use Rattle.trace_lines.specs.AddressLines.{dynamorio_line, lackey_line}
use Rattle.trace_lines.specs.Columns.{table_named, text_in}
use Rattle.trace_lines.specs.PageIds.{page_of_id}
use Rattle.trace_lines.specs.PageLines.{line_reference, record_page, referred}
use Rattle.trace_lines.specs.PlainLines.{compression_at, is_left_out, plain_line}
use Rattle.trace_lines.specs.declared.address_lines.AddressLine.{AddressLine}
use Rattle.trace_lines.specs.declared.address_lines.AddressLine.TheVariants.{Access as Accessed, Other}
use Rattle.trace_lines.specs.declared.format.IdKind.{IdKind}
use Rattle.trace_lines.specs.declared.format.IdKind.TheVariants.{Unknown, Numbers, Words, Texts}
use Rattle.trace_lines.specs.declared.format.Table.{Table}
use Rattle.trace_lines.specs.declared.format.TraceFormat.{TraceFormat}
use Rattle.trace_lines.specs.declared.format.TraceFormat.TheVariants.{Text, Csv, Columns, OracleGeneral, Lackey, DynamoRio}
use Rattle.trace_lines.specs.Rows.{row_flaw, row_said}
use Rattle.trace_lines.specs.declared.rows.RowFlaw.{RowFlaw}
use Rattle.trace_lines.specs.declared.trace_line.TraceLine.{TraceLine}
use Rattle.trace_lines.specs.declared.trace_line.TraceLine.TheVariants.{Refers, Word, LeftOut, Names}

-- ---- what a line or record says

abbrev pub to_page : Key → TraceLine
to_page page = Refers (record { first = referred false page; more = 0 })

abbrev pub to_reference : Reference → TraceLine
to_reference reference = Refers (record { first = reference; more = 0 })

-- a printable character of ASCII, or white space
unfoldable pub is_text_byte : ℕ → Bool
is_text_byte byte = (nat_le 32 byte && nat_lt byte 127) || (nat_le 9 byte && nat_lt byte 14)

-- whether the first record shows that there are none, but a text
unfoldable pub shows_text : ℕ → List ℕ → Bool
shows_text number bytes = (number == 1) && list_all is_text_byte bytes

unfoldable pub record_said : ℕ → List ℕ → Option TraceLine
record_said number bytes = if shows_text number bytes then None else option_map to_page (record_page bytes)

-- an access refers to the pages of its bytes
abbrev pub address_said : AddressLine → TraceLine
address_said (Accessed access) = Refers (record { first = referred access.is_written (page_of_id access.first); more = access.more })
address_said Other = LeftOut

-- what a line says that is not left out
abbrev pub form_said : TraceFormat → List ℕ → Option TraceLine
form_said Text line = option_map to_reference (line_reference line)
form_said (Csv table) line = option_map Names (table_named table line)
form_said (Columns table) line = row_said table line
form_said OracleGeneral line = option_map to_reference (line_reference line)
form_said Lackey line = option_map address_said (lackey_line line)
form_said DynamoRio line = option_map address_said (dynamorio_line line)

unfoldable pub line_said : TraceFormat → List ℕ → Option TraceLine
line_said format line = if is_left_out line then Some LeftOut else form_said format line

abbrev pub piece_said : TraceFormat → ℕ → List ℕ → Option TraceLine
piece_said Text number piece = line_said Text (plain_line number piece)
piece_said (Csv table) number piece = line_said (Csv table) (plain_line number piece)
piece_said (Columns table) number piece = line_said (Columns table) (plain_line number piece)
piece_said OracleGeneral number piece = record_said number piece
piece_said Lackey number piece = line_said Lackey (plain_line number piece)
piece_said DynamoRio number piece = line_said DynamoRio (plain_line number piece)

-- what the line or record of this number says, if anything: none of a file that is compressed does
unfoldable pub said : TraceFormat → ℕ → List ℕ → Option TraceLine
said format number piece = if is_some (compression_at number piece) then None else piece_said format number piece

-- why the row of a table of this number says nothing
abbrev pub row_flaw_at : Table → ℕ → List ℕ → RowFlaw
row_flaw_at table number piece = row_flaw table (plain_line number piece)

-- ---- what follows a line

-- after the names of its columns a table has lines of columns
abbrev pub csv_behind : Option TraceLine → Table → TraceFormat
csv_behind None table = Csv table
csv_behind (Some (Refers line)) table = Csv table
csv_behind (Some (Word is_written)) table = Csv table
csv_behind (Some LeftOut) table = Csv table
csv_behind (Some (Names found)) table = Columns found

-- after the first id it is known what the ids of the column are
abbrev pub ids_behind : Option TraceLine → IdKind → IdKind
ids_behind None ids = ids
ids_behind (Some (Refers line)) Unknown = Numbers
ids_behind (Some (Word is_written)) Unknown = Words
ids_behind (Some LeftOut) ids = ids
ids_behind (Some (Names found)) ids = ids
ids_behind (Some line) Numbers = Numbers
ids_behind (Some line) Words = Words
ids_behind (Some line) Texts = Texts

abbrev pub with_ids : IdKind → Table → Table
with_ids ids table = record {
  id = table.id;
  volume = table.volume;
  size = table.size;
  op = table.op;
  page_size = table.page_size;
  writes = table.writes;
  separator = table.separator;
  ids = ids;
}

abbrev pub table_behind : Option TraceLine → Table → Table
table_behind line table = with_ids (ids_behind line table.ids) table

abbrev pub format_behind : Option TraceLine → TraceFormat → TraceFormat
format_behind line Text = Text
format_behind line (Csv table) = csv_behind line table
format_behind line (Columns table) = Columns (table_behind line table)
format_behind line OracleGeneral = OracleGeneral
format_behind line Lackey = Lackey
format_behind line DynamoRio = DynamoRio

-- ---- words

-- the word of a line that has one
abbrev pub word_of : TraceFormat → ℕ → List ℕ → List ℕ
word_of Text number piece = []
word_of (Csv table) number piece = []
word_of (Columns table) number piece = unwrap_or (text_in table.separator table.id (plain_line number piece)) []
word_of OracleGeneral number piece = []
word_of Lackey number piece = []
word_of DynamoRio number piece = []

-- a line whose word has this number says what a line says whose id is that number
abbrev pub word_numbered : ℕ → Bool → TraceLine
word_numbered number is_written = Refers (record { first = referred is_written (page_of_id number); more = 0 })

-- ---- writes

-- a table marks writes in a column for it
abbrev pub marks_writes : TraceFormat → Bool
marks_writes Text = true
marks_writes (Csv table) = is_some table.op
marks_writes (Columns table) = is_some table.op
marks_writes OracleGeneral = false
marks_writes Lackey = true
marks_writes DynamoRio = true
