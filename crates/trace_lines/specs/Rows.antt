-- Rows of tables: which pages each refers to.
use Rattle.std.specs.Prelude.{ℕ, ◌+◌, ◌-◌, ◌/◌, ◌^◌, ◌==◌, ◌&&◌, ◌||◌, Bool, true, false, not, nat_lt, List, length, codes, Option, Some, None, if◌then◌else◌}
use Rattle.std.specs.Option.{is_some, is_none, option_and_then, option_map}
use Rattle.std.specs.Borrow.{Bor}
use Rattle.clock_policy.specs.declared.key.Key.{Key}
use Rattle.trace_lines.specs.Columns.{is_id_name, is_listed, is_named, number_in, text_in}
use Rattle.trace_lines.specs.Ids.{id_in}
use Rattle.trace_lines.specs.PageIds.{more_pages, page_of_id}
use Rattle.trace_lines.specs.PageLines.{referred}
use Rattle.trace_lines.specs.declared.format.Column.{Column}
use Rattle.trace_lines.specs.declared.format.IdKind.{IdKind}
use Rattle.trace_lines.specs.declared.format.IdKind.TheVariants.{Unknown, Numbers, Words, Texts}
use Rattle.trace_lines.specs.declared.format.Table.{Table}
use Rattle.trace_lines.specs.declared.rows.RowFlaw.{RowFlaw}
use Rattle.trace_lines.specs.declared.rows.RowFlaw.TheVariants.{Id, Op, Other}
use Rattle.trace_lines.specs.declared.rows.RowId.{RowId}
use Rattle.trace_lines.specs.declared.rows.RowId.TheVariants.{Number, Word}
use Rattle.trace_lines.specs.declared.trace_line.TraceLine.{TraceLine}
use Rattle.trace_lines.specs.declared.trace_line.TraceLine.TheVariants.{Refers, Word as OfWord, LeftOut}

-- ---- ids

-- a word has a character
abbrev pub is_word : List ℕ → Bool
is_word text = nat_lt 0 (length text)

-- the first one is not what a column of ids may be called
abbrev pub is_first_word : List ℕ → Bool
is_first_word text = is_word text && not (is_id_name text)

abbrev pub word_where : Bool → Option RowId
word_where is_so = if is_so then Some Word else None

abbrev pub later_word : Option ℕ → List ℕ → Option RowId
later_word None text = word_where (is_word text)
later_word (Some number) text = None

-- What a text is as an id, with the number that it writes, if it does: the first one shows whether the ids are numbers or words, and of
-- the ids that are words none is a number, unless texts of any kind were asked for.
abbrev pub id_of_kind : IdKind → Option ℕ → List ℕ → Option RowId
id_of_kind Unknown None text = word_where (is_first_word text)
id_of_kind Unknown (Some number) text = Some (Number number)
id_of_kind Numbers number text = option_map Number number
id_of_kind Words number text = later_word number text
id_of_kind Texts number text = word_where (is_word text)

abbrev pub row_id : Table → List ℕ → Option RowId
row_id table line = option_and_then (λ text. id_of_kind table.ids (id_in text) text) (text_in table.separator table.id line)

-- ---- reads and writes

-- what is usually written for a write and for a read
unfoldable pub usual_op : List ℕ → Option Bool
usual_op text = if is_named (codes "w") text || is_named (codes "write") text then Some true
    else if is_named (codes "r") text || is_named (codes "read") text then Some false else None

-- whether a text means a write: where the words for a write are listed, each other means a read
abbrev pub op_in : Option (Bor (List ℕ)) → List ℕ → Option Bool
op_in None text = usual_op text
op_in (Some list) text = Some (is_listed list.now text)

-- whether a row writes; none does where no column says it
abbrev pub op_at : Table → List ℕ → Option Column → Option Bool
op_at table line None = Some false
op_at table line (Some column) = option_and_then (op_in table.writes) (text_in table.separator column line)

abbrev pub row_op : Table → List ℕ → Option Bool
row_op table line = op_at table line table.op

-- ---- pages

-- a number of 32 bits
unfoldable pub short : ℕ → Option ℕ
short number = if nat_lt number 4294967296 then Some number else None

-- the number of a row's volume, where volumes are read
abbrev pub volume_at : Table → List ℕ → Option Column → Option (Option ℕ)
volume_at table line None = Some None
volume_at table line (Some column) = option_map (λ volume. Some volume) (option_and_then short (number_in table.separator column line))

abbrev pub volume_in : Table → List ℕ → Option (Option ℕ)
volume_in table line = volume_at table line table.volume

-- the size of a row's block; 1 where sizes are not read
abbrev pub size_at : Table → List ℕ → Option Column → Option ℕ
size_at table line None = Some 1
size_at table line (Some column) = number_in table.separator column line

abbrev pub size_in : Table → List ℕ → Option ℕ
size_in table line = size_at table line table.size

-- the page of the first of some: the pages of a volume have numbers of 32 bits
abbrev pub of_volume : ℕ → Option ℕ → Option ℕ → Option Key
of_volume process None last = None
of_volume process (Some vpn) None = None
of_volume process (Some vpn) (Some last) = Some (record { process = process; vpn = vpn })

abbrev pub run_page : Option ℕ → ℕ → ℕ → Option Key
run_page None first last = Some (page_of_id first)
run_page (Some process) first last = of_volume process (short first) (short last)

abbrev pub run_of : Bool → Option ℕ → Option Key → Option TraceLine
run_of is_written None page = None
run_of is_written (Some more) None = None
run_of is_written (Some more) (Some page) = Some (Refers (record { first = referred is_written page; more = more }))

-- what a row says of the pages from the first to the last
abbrev pub run_said : Option ℕ → ℕ → ℕ → Bool → Option TraceLine
run_said volume first last is_written = run_of is_written (more_pages first last) (run_page volume first last)

-- And of a block of so many units at an offset: each page that it touches is referred to. One of no units refers to no page; the last unit
-- has an offset of 64 bits.
unfoldable pub block_said : Option ℕ → ℕ → ℕ → ℕ → Bool → Option TraceLine
block_said volume offset size page_size is_written = if size == 0 then Some LeftOut
    else if nat_lt (offset + (size - 1)) (2 ^ 64) then run_said volume (offset / page_size) ((offset + (size - 1)) / page_size) is_written else None

abbrev pub sized_said : Option ℕ → ℕ → Option ℕ → ℕ → Bool → Option TraceLine
sized_said volume offset None page_size is_written = None
sized_said volume offset (Some size) page_size is_written = block_said volume offset size page_size is_written

-- an id is that of a page, or an offset
abbrev pub paged_said : Table → List ℕ → Option ℕ → ℕ → Bool → Option ℕ → Option TraceLine
paged_said table line volume number is_written None = run_said volume number number is_written
paged_said table line volume number is_written (Some page_size) = sized_said volume number (size_in table line) page_size is_written

abbrev pub volume_said : Table → List ℕ → Option (Option ℕ) → ℕ → Bool → Option TraceLine
volume_said table line None number is_written = None
volume_said table line (Some volume) number is_written = paged_said table line volume number is_written (option_map (λ n. n.value) table.page_size)

-- what a row says whose id is a number
abbrev pub numbered_said : Table → List ℕ → ℕ → Bool → Option TraceLine
numbered_said table line number is_written = volume_said table line (volume_in table line) number is_written

-- ---- rows

abbrev pub read_said : Table → List ℕ → Option RowId → Option Bool → Option TraceLine
read_said table line None is_written = None
read_said table line (Some id) None = None
read_said table line (Some (Number number)) (Some is_written) = numbered_said table line number is_written
read_said table line (Some Word) (Some is_written) = Some (OfWord is_written)

-- what a row says
unfoldable pub row_said : Table → List ℕ → Option TraceLine
row_said table line = read_said table line (row_id table line) (row_op table line)

-- an id is there, of another kind than the ids are
abbrev pub is_misfit : IdKind → Option (List ℕ) → Bool
is_misfit ids None = false
is_misfit ids (Some text) = is_word text && is_none (id_of_kind ids (id_in text) text)

abbrev pub is_bad_id : Table → List ℕ → Bool
is_bad_id table line = is_misfit table.ids (text_in table.separator table.id line)

-- nothing but whether it writes is unknown
abbrev pub is_bad_op : Table → List ℕ → Bool
is_bad_op table line = is_some (row_id table line) && is_none (row_op table line)

-- why a row says nothing
unfoldable pub row_flaw : Table → List ℕ → RowFlaw
row_flaw table line = if is_bad_id table line then Id else if is_bad_op table line then Op else Other
