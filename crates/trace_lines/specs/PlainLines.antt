-- Lines as other programs write them: which bytes of a line count, and which lines have no data; and files that are compressed.
use Rattle.std.specs.Prelude.{ℕ, ◌==◌, ◌&&◌, ◌||◌, Bool, nat_eq, List, [], ◌∷◌, length, drop, codes, Option, Some, None, if◌then◌else◌}
use Rattle.std.specs.Io.BufRead.{strip_last}
use Rattle.std.specs.List.{prefix_len, starts_with}
use Rattle.std.specs.Char.{is_ascii_whitespace}
use Rattle.trace_lines.specs.declared.compression.Compression.{Compression}
use Rattle.trace_lines.specs.declared.compression.Compression.TheVariants.{Gzip, Zstd, Xz}

-- the byte order mark of UTF-8
abbrev pub mark : List ℕ
mark = 239 ∷ 187 ∷ 191 ∷ []

-- the first line of a file may have a byte order mark in front, which does not count
unfoldable pub without_mark : ℕ → List ℕ → List ℕ
without_mark number line = if (number == 1) && starts_with nat_eq line mark then drop 3 line else line

-- nor does a carriage return at the end of a line
unfoldable pub plain_line : ℕ → List ℕ → List ℕ
plain_line number line = strip_last 13 (without_mark number line)

unfoldable pub tells_nothing : List ℕ → Bool
tells_nothing text = (length text == 0) || starts_with nat_eq text (codes "#")

-- a line of only white space, or one whose first character other than white space is a `#`
unfoldable pub is_left_out : List ℕ → Bool
is_left_out line = tells_nothing (drop (prefix_len is_ascii_whitespace line) line)

-- what the first bytes of a file show that was compressed
unfoldable pub compression_in : List ℕ → Option Compression
compression_in bytes = if starts_with nat_eq bytes (31 ∷ 139 ∷ 8 ∷ []) then Some Gzip
    else if starts_with nat_eq bytes (40 ∷ 181 ∷ 47 ∷ 253 ∷ []) then Some Zstd
    else if starts_with nat_eq bytes (253 ∷ 55 ∷ 122 ∷ 88 ∷ 90 ∷ 0 ∷ []) then Some Xz else None

-- of a line or record by its number: they are in the first one
unfoldable pub compression_at : ℕ → List ℕ → Option Compression
compression_at number piece = if number == 1 then compression_in piece else None
