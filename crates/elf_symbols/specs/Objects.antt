-- Where an object of a program is, by the name of its symbol (System V gABI, chapters "Symbol Table" and "Sections").
use Rattle.std.specs.Prelude.{ℕ, ◌+◌, ◌-◌, ◌*◌, ◌/◌, ◌^◌, ◌<◌, ◌≤◌, ◌==◌, nat_le, nat_lt, Bool, not, ◌&&◌, cond, List, length, drop, find, slice_get, Option, Some, None}
use Rattle.std.specs.List.{range_with_len}
use Rattle.std.specs.Option.{option_and_then}
use Rattle.std.specs.Str.{bytes_eq}
use Rattle.elf_symbols.specs.declared.object.ObjectPlace.{ObjectPlace}
use Rattle.elf_symbols.specs.declared.section.Section.{Section}
use Rattle.elf_symbols.specs.Sections.{half_at, word_at, sections, symbol_tables}
use Rattle.elf_symbols.specs.SymbolTables.{is_in_section, name_at}

-- the symbol of a number has this name
abbrev pub is_called : List ℕ → List ℕ → List ℕ → ℕ → Bool
is_called name table names number = bytes_eq (name_at names (word_at (16 * number) table)) name

-- the first of so many numbers, from one on, whose symbol has it
unfoldable pub called_from : List ℕ → List ℕ → List ℕ → ℕ → ℕ → Option ℕ
called_from name table names number count = find (is_called name table names) (range_with_len number count)

-- SHT_NOBITS: a section with no bytes in the file
abbrev pub has_bytes : Section → Bool
has_bytes section = not (section.kind == 8)

-- a section has these bytes of memory, a file of this length has the section, and the bytes end below 2^32
unfoldable pub holds : Section → ℕ → ℕ → ℕ → Bool
holds section address size file_length =
    has_bytes section
    && (nat_le section.address address
    && (nat_le (address + size) (section.address + section.size)
    && (nat_le (section.offset + section.size) file_length && nat_lt (address + size) (2 ^ 32))))

-- where such bytes are in the file
unfoldable pub place_in : ℕ → ℕ → ℕ → Section → Option ObjectPlace
place_in file_length address size section =
    cond (holds section address size file_length) (Some (record { address = address; offset = section.offset + (address - section.address); size = size })) None

-- the object of 16 bytes of a table: st_value, st_size and st_shndx
abbrev pub object_by : List ℕ → List ℕ → Option ObjectPlace
object_by file symbol =
    cond (is_in_section (half_at 14 symbol))
    (option_and_then (place_in (length file) (word_at 4 symbol) (word_at 8 symbol)) (slice_get (sections file) (half_at 14 symbol)))
    None

unfoldable pub object_of : List ℕ → List ℕ → Option ObjectPlace
object_of file symbol = object_by file symbol

-- the object of the first symbol of a name in a table
abbrev pub table_object : List ℕ → List ℕ → List ℕ × List ℕ → Option ObjectPlace
table_object file name tables =
    option_and_then (λ number. object_of file (drop (16 * number) tables.0)) (called_from name tables.0 tables.1 0 (length tables.0 / 16))

-- the object that a file has under a name: that of the first symbol of this name, where the file has its bytes
abbrev pub object_named : List ℕ → List ℕ → Option ObjectPlace
object_named name file = option_and_then (table_object file name) (symbol_tables file)

-- its bytes lie in a file of so many bytes, and in 32 bits of memory
pub record LiesIn (place : ObjectPlace) (file_length : ℕ) : Type 0 where
  pub within : place.offset + place.size ≤ file_length
  pub below : place.address + place.size < 2 ^ 32
