-- Sections of a little-endian ELF file of 32 bits (System V gABI, chapters "ELF Header" and "Sections"). A file is a list of bytes; a
-- field is the little-endian number at its offset.
use Rattle.std.specs.Prelude.{ℕ, ◌+◌, ◌*◌, ◌==◌, nat_le, Bool, ◌&&◌, if◌then◌else◌, List, length, map, take, drop, find, slice_get, Option, Some, None}
use Rattle.std.specs.List.{range_with_len}
use Rattle.std.specs.Option.{option_and_then}
use Rattle.byteorder.specs.Endian.{little_number}
use Rattle.elf_symbols.specs.declared.section.Section.{Section}

-- so many bytes from an offset on, where all of them are there
unfoldable pub bytes_at : ℕ → ℕ → List ℕ → Option (List ℕ)
bytes_at offset count bytes = if nat_le (offset + count) (length bytes) then Some (take count (drop offset bytes)) else None

-- the 16-bit number at an offset
unfoldable pub half_at : ℕ → List ℕ → ℕ
half_at offset bytes = little_number 2 (drop offset bytes)

-- the 32-bit number at an offset
unfoldable pub word_at : ℕ → List ℕ → ℕ
word_at offset bytes = little_number 4 (drop offset bytes)

-- e_shoff: where the section headers are in the file
abbrev pub headers_offset : List ℕ → ℕ
headers_offset file = word_at 32 file

-- e_shnum: how many they are
abbrev pub headers_count : List ℕ → ℕ
headers_count file = half_at 48 file

-- the file has an ELF header, and section headers of 40 bytes each (e_shentsize), all within it
abbrev pub has_sections : List ℕ → Bool
has_sections file =
    nat_le 52 (length file)
    && ((half_at 46 file == 40) && nat_le (headers_offset file + 40 * headers_count file) (length file))

-- how many sections it has
unfoldable pub section_count : List ℕ → ℕ
section_count file = if has_sections file then headers_count file else 0

-- the section header at an offset: sh_type, sh_addr, sh_offset, sh_size and sh_link
unfoldable pub section_at : List ℕ → ℕ → Section
section_at file offset =
    record {
      kind = word_at (offset + 4) file;
      address = word_at (offset + 12) file;
      offset = word_at (offset + 16) file;
      size = word_at (offset + 20) file;
      link = word_at (offset + 24) file;
    }

-- the section of a number: the headers are one after the other
abbrev pub numbered : List ℕ → ℕ → Section
numbered file number = section_at file (headers_offset file + 40 * number)

-- so many sections from a number on
unfoldable pub sections_from : List ℕ → ℕ → ℕ → List Section
sections_from file number count = map (numbered file) (range_with_len number count)

-- all of them
abbrev pub sections : List ℕ → List Section
sections file = sections_from file 0 (section_count file)

-- the bytes of a section, where the file has them
abbrev pub section_bytes : List ℕ → Section → Option (List ℕ)
section_bytes file section = bytes_at section.offset section.size file

-- SHT_SYMTAB
abbrev pub is_symbol_table : Section → Bool
is_symbol_table section = section.kind == 2

-- two things, where there are both
abbrev pub both : Option (List ℕ) → Option (List ℕ) → Option (List ℕ × List ℕ)
both None other = None
both (Some one) None = None
both (Some one) (Some other) = Some (one, other)

-- the bytes of a symbol table and those of its names, whose section number is its sh_link
abbrev pub with_names : List ℕ → Section → Option (List ℕ × List ℕ)
with_names file table = both (section_bytes file table) (option_and_then (section_bytes file) (slice_get (sections file) table.link))

-- those of the first symbol table
abbrev pub symbol_tables : List ℕ → Option (List ℕ × List ℕ)
symbol_tables file = option_and_then (with_names file) (find is_symbol_table (sections file))
