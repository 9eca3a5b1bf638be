-- Tables of rows, as they are printed.
use Rattle.std.specs.Prelude.{ℕ, ◌-◌, ◌^◌, Bool, false, List, [], ◌++◌, codes, cond, take}
use Rattle.std.specs.Fmt.{decimal, format_spec, padded_integral}
use Rattle.std.specs.List.{flat_map}
use Rattle.hex.specs.Hex.{encode_lower}
use Rattle.process_text.specs.ProcessText.{ending_text, line_end}
use Rattle.record_commands.specs.declared.row.Row.{Row}

-- a number with blanks before it, up to a width
abbrev pub right : ℕ → ℕ → List ℕ
right width n = padded_integral (format_spec 32 3 0 width (2 ^ 64 - 1)) false [] (decimal n)

-- ---- a table

unfoldable pub head_text : List ℕ
head_text = codes "   times  first seed    bytes  digest        ending" ++ line_end

unfoldable pub numbers_text : Row → List ℕ
numbers_text row = right 8 row.times ++ codes "  " ++ right 10 row.seed ++ codes " " ++ right 8 row.output.length ++ codes "  "

unfoldable pub last_text : Row → List ℕ
last_text row = codes "  " ++ ending_text row.end ++ line_end

-- the line of a row: of a digest it has the first twelve digits
abbrev pub row_text : Row → List ℕ
row_text row = numbers_text row ++ (take 12 (encode_lower row.output.digest) ++ last_text row)

-- a line a row, below a head
abbrev pub table_text : List Row → List ℕ
table_text rows = head_text ++ flat_map row_text rows

-- ---- values, with commas between

unfoldable pub head_values : List ℕ
head_values = codes "times,first_seed,bytes,digest,ending" ++ line_end

unfoldable pub number_values : Row → List ℕ
number_values row = decimal row.times ++ codes "," ++ decimal row.seed ++ codes "," ++ decimal row.output.length ++ codes ","

unfoldable pub last_value : Row → List ℕ
last_value row = codes "," ++ ending_text row.end ++ line_end

-- a row's values
abbrev pub row_values : Row → List ℕ
row_values row = number_values row ++ (encode_lower row.output.digest ++ last_value row)

abbrev pub values_text : List Row → List ℕ
values_text rows = head_values ++ flat_map row_values rows

-- what is printed of rows: values, or a table
abbrev pub shown_text : Bool → List Row → List ℕ
shown_text is_csv rows = cond is_csv (values_text rows) (table_text rows)
