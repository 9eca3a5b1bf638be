-- Lines of columns.
use Rattle.std.specs.Prelude.{ℕ, suc, ◌-◌, ◌==◌, ◌&&◌, ◌||◌, Bool, false, not, nat_eq, nat_lt, List, [], ◌∷◌, length, take, drop, codes, slice_get, slice_range, Option, Some, None, unwrap_or, if◌then◌else◌}
use Rattle.std.specs.Option.{option_map, option_and_then}
use Rattle.std.specs.List.{list_any, position_from, prefix_len, suffix_len, starts_with, ends_with}
use Rattle.std.specs.Char.{is_ascii_whitespace}
use Rattle.std.specs.Str.{str_eq_ignore_ascii_case}
use Rattle.text_lines.specs.Text.{ahead}
use Rattle.trace_lines.specs.Ids.{id_in}
use Rattle.trace_lines.specs.declared.format.Column.{Column}
use Rattle.trace_lines.specs.declared.format.Column.TheVariants.{At, Named, Usual}
use Rattle.trace_lines.specs.declared.format.Table.{Table}

-- ---- the fields of a line

-- a comma, a semicolon or a tab
abbrev pub is_separator : ℕ → Bool
is_separator c = (c == 44) || (c == 59) || (c == 9)

-- whether the text after a character is quoted
abbrev pub quoted_after : Bool → ℕ → Bool
quoted_after quoted c = if c == 34 then not quoted else quoted

-- the texts between separators; a quoted separator separates nothing
unfoldable pub fields_from : ℕ → Bool → List ℕ → List (List ℕ)
fields_from separator quoted [] = [] ∷ []
fields_from separator quoted (c ∷ line) = if (c == separator) && not quoted then [] ∷ fields_from separator false line
    else ahead c (fields_from separator (quoted_after quoted c) line)

abbrev pub fields_of : ℕ → List ℕ → List (List ℕ)
fields_of separator line = fields_from separator false line

-- how many bytes the first one has
unfoldable pub field_size : ℕ → Bool → List ℕ → ℕ
field_size separator quoted [] = 0
field_size separator quoted (c ∷ line) = if (c == separator) && not quoted then 0 else suc (field_size separator (quoted_after quoted c) line)

-- the fields after the first separator, if there is one
abbrev pub fields_behind : ℕ → Option (List ℕ) → List (List ℕ)
fields_behind separator None = []
fields_behind separator (Some line) = fields_of separator line

-- the first separator of a line that is not quoted, or a comma
unfoldable pub separator_from : Bool → List ℕ → ℕ
separator_from quoted [] = 44
separator_from quoted (c ∷ line) = if is_separator c && not quoted then c else separator_from (quoted_after quoted c) line

abbrev pub separator_of : List ℕ → ℕ
separator_of line = separator_from false line

-- ---- what a field says

-- without the white space at both ends
unfoldable pub trimmed : List ℕ → List ℕ
trimmed text = let front = drop (prefix_len is_ascii_whitespace text) text in take (length front - suffix_len is_ascii_whitespace front) front

abbrev pub is_quoted : List ℕ → Bool
is_quoted text = nat_lt 1 (length text) && starts_with nat_eq text (codes "\"") && ends_with nat_eq text (codes "\"")

-- without the quotes at both ends
unfoldable pub unquoted : List ℕ → List ℕ
unquoted text = if is_quoted text then slice_range text 1 (length text - 1) else text

abbrev pub field_text : List ℕ → List ℕ
field_text field = unquoted (trimmed field)

-- ---- ids

abbrev pub is_named : List ℕ → List ℕ → Bool
is_named name text = str_eq_ignore_ascii_case text name

-- what a column of ids may be called, in capital or small letters
unfoldable pub is_id_name : List ℕ → Bool
is_id_name text = is_named (codes "id") text || is_named (codes "obj_id") text || is_named (codes "object_id") text || is_named (codes "key") text || is_named (codes "page") text

-- a list of words, separated by commas, has a text, in capital or small letters
unfoldable pub is_listed : List ℕ → List ℕ → Bool
is_listed list text = list_any (λ word. is_named word text) (fields_of 44 list)

-- whether a name in the first line is that of a column
abbrev pub is_column : Column → List ℕ → Bool
is_column (At place) text = false
is_column (Named name) text = is_named name.now text
is_column Usual text = is_id_name text

-- the place of the first column that has the name
unfoldable pub place_named : ℕ → List ℕ → Column → Option ℕ
place_named separator names column = position_from (λ name. is_column column (field_text name)) 0 (fields_of separator names)

-- a column by its place: one that has a place keeps it
abbrev pub placed : ℕ → List ℕ → Column → Option Column
placed separator names (At place) = Some (At place)
placed separator names (Named name) = option_map At (place_named separator names (Named name))
placed separator names Usual = option_map At (place_named separator names Usual)

-- the same of one that may be there
abbrev pub placed_where : ℕ → List ℕ → Option Column → Option (Option Column)
placed_where separator names None = Some None
placed_where separator names (Some column) = option_map (λ it. Some it) (placed separator names column)

-- a table whose columns have these places, where each has one
abbrev pub table_at : Table → ℕ → Option Column → Option (Option Column) → Option (Option Column) → Option (Option Column) → Option Table
table_at table separator None volume size op = None
table_at table separator (Some id) None size op = None
table_at table separator (Some id) (Some volume) None op = None
table_at table separator (Some id) (Some volume) (Some size) None = None
table_at table separator (Some id) (Some volume) (Some size) (Some op) = Some (record {
  id = id;
  volume = volume;
  size = size;
  op = op;
  page_size = table.page_size;
  writes = table.writes;
  separator = Some separator;
  ids = table.ids;
})

-- the table with all its columns by their places, by the line that names them: the separator of that line is that of all
abbrev pub table_named : Table → List ℕ → Option Table
table_named table names = table_at table (separator_of names) (placed (separator_of names) names table.id) (placed_where (separator_of names) names table.volume)
    (placed_where (separator_of names) names table.size) (placed_where (separator_of names) names table.op)

-- the text in a column of a line, where the column's place is known
abbrev pub text_in : Option ℕ → Column → List ℕ → Option (List ℕ)
text_in separator (At place) line = option_map field_text (slice_get (fields_of (unwrap_or separator (separator_of line)) line) place)
text_in separator (Named name) line = None
text_in separator Usual line = None

-- the number in a column of a line
abbrev pub number_in : Option ℕ → Column → List ℕ → Option ℕ
number_in separator column line = option_and_then id_in (text_in separator column line)
