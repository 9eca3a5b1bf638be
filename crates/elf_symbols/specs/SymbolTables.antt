-- The symbols of an ELF file that name code or places in it (System V gABI, chapters "Symbol Table" and "String Table").
use Rattle.std.specs.Prelude.{ℕ, ◌+◌, ◌*◌, ◌/◌, ◌%◌, ◌==◌, nat_lt, Bool, false, not, ◌&&◌, ◌||◌, if◌then◌else◌, List, length, drop, find, slice_get, slice_index, Option, Some, None}
use Rattle.std.specs.List.{range_with_len, filter_map, before_first}
use Rattle.std.specs.Option.{option_map, option_or}
use Rattle.elf_symbols.specs.declared.symbols.Entry.{Entry}
use Rattle.elf_symbols.specs.declared.symbols.Named.{Named}
use Rattle.elf_symbols.specs.Sections.{half_at, word_at, symbol_tables}

-- STT_NOTYPE and STT_FUNC
abbrev pub names_place : ℕ → Bool
names_place kind = (kind == 0) || (kind == 2)

-- neither SHN_UNDEF nor a number from SHN_LORESERVE on
abbrev pub is_in_section : ℕ → Bool
is_in_section section = nat_lt 0 section && nat_lt section 0xFF00

-- a name that begins with this byte is not empty, and is no mapping symbol, as `$x` and `$d`
abbrev pub begins_name : Option ℕ → Bool
begins_name None = false
begins_name (Some byte) = not (byte == 0) && not (byte == 36)

-- a name that begins with these two bytes, `.L`, is that of a label of the assembler's own
abbrev pub is_of_assembler : Option ℕ → Option ℕ → Bool
is_of_assembler None next = false
is_of_assembler (Some byte) None = false
is_of_assembler (Some byte) (Some next) = (byte == 46) && (next == 76)

-- what 16 bytes of a table name: st_name, st_value, st_info, of which the lower half is the kind, and st_shndx
abbrev pub is_place : List ℕ → List ℕ → Bool
is_place symbol names =
    names_place (slice_index symbol 12 % 16)
    && (is_in_section (half_at 14 symbol)
    && (begins_name (slice_get names (word_at 0 symbol))
    && not (is_of_assembler (slice_get names (word_at 0 symbol)) (slice_get names (word_at 0 symbol + 1)))))

abbrev pub named_by : List ℕ → Named
named_by symbol = record { name = word_at 0 symbol; is_function = slice_index symbol 12 % 16 == 2 }

unfoldable pub entry_of : List ℕ → List ℕ → Option Entry
entry_of names symbol = if is_place symbol names then Some (record { address = word_at 4 symbol; named = named_by symbol }) else None

-- the entry of a number
abbrev pub entry_at : List ℕ → List ℕ → ℕ → Option Entry
entry_at table names number = entry_of names (drop (16 * number) table)

-- the first so many entries that name places
unfoldable pub entries_to : List ℕ → List ℕ → ℕ → List Entry
entries_to table names count = filter_map (entry_at table names) (range_with_len 0 count)

-- all of a table
abbrev pub entries : List ℕ → List ℕ → List Entry
entries table names = entries_to table names (length table / 16)

abbrev pub is_at : ℕ → Entry → Bool
is_at address entry = entry.address == address

abbrev pub is_function_at : ℕ → Entry → Bool
is_function_at address entry = (entry.address == address) && entry.named.is_function

-- what is named at an address: by the first function there, else by the first symbol
unfoldable pub named_at : List Entry → ℕ → Option Named
named_at found address = option_map (λ (entry : Entry). entry.named) (option_or (find (is_function_at address) found) (find (is_at address) found))

-- what is named at an address by one more entry there, after this
abbrev pub with_named : Named → Option Named → Option Named
with_named named None = Some named
with_named named (Some there) = if there.is_function || not named.is_function then Some there else Some named

abbrev pub with_entry : Entry → ℕ → Option Named → Option Named
with_entry entry address there = if entry.address == address then with_named entry.named there else there

-- the name that begins at an offset: up to the next byte 0, or to the end
unfoldable pub name_at : List ℕ → ℕ → List ℕ
name_at names offset = before_first (λ byte. byte == 0) (drop offset names)

abbrev pub name_of : List ℕ → Named → List ℕ
name_of names named = name_at names named.name

-- the name of an address by a table and its names
abbrev pub table_name : List ℕ × List ℕ → ℕ → Option (List ℕ)
table_name tables address = option_map (name_of tables.1) (named_at (entries tables.0 tables.1) address)

-- the name of an address by the tables of a file, where it has them
abbrev pub name_by : Option (List ℕ × List ℕ) → ℕ → Option (List ℕ)
name_by None address = None
name_by (Some tables) address = table_name tables address

-- the name that a file gives an address
abbrev pub file_name : List ℕ → ℕ → Option (List ℕ)
file_name file address = name_by (symbol_tables file) address
