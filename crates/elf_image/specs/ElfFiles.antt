-- Image files: little-endian ELF32 files that hold a RISC-V program (System V gABI, chapters "ELF
-- Header" and "Program Header"; RISC-V psABI, "ELF Object Files", for e_machine and e_flags). A file is
-- a list of bytes; a field is the little-endian number at its offset.
use Rattle.std.specs.Prelude.{ℕ, ◌+◌, ◌-◌, ◌*◌, ◌==◌, nat_lt, nat_le, max, min, Bool, false, not, ◌&&◌, ◌||◌, cond, if◌then◌else◌, bit_and, List, [], ◌∷◌, length, map, drop, slice_index, Option}
use Rattle.std.specs.List.{list_any, filter, range_with_len}
use Rattle.std.specs.Option.{option_or}
use Rattle.byteorder.specs.Endian.{little_number}
use Rattle.page_memory.specs.MemoryMap.{image_end, image_end_page, most_image_pages, most_image_regions}
use Rattle.page_memory.specs.declared.rights.Rights.{Rights}
use Rattle.elf_image.specs.declared.image.ImagePage.{ImagePage}
use Rattle.elf_image.specs.declared.program_header.ProgramHeader.{ProgramHeader}
use Rattle.elf_image.specs.declared.fault.ElfFault.{ElfFault}
use Rattle.elf_image.specs.declared.fault.ElfFault.TheVariants.{Short, NotElf, WrongClass, WrongType, WrongMachine, Flags, Headers, Dynamic, SegmentOutOfFile, SizeOrder, Range, Overlap, TooLarge, TooSparse, EntryNotExecutable}
use Rattle.elf_image.specs.Image.{ImageContent}
use Rattle.elf_image.specs.Regions.{regions}
use Rattle.elf_image.specs.Parts.{first_fault, entered, image_of_parts}

-- the byte at an offset
abbrev pub file_byte : ℕ → List ℕ → ℕ
file_byte offset file = slice_index file offset

-- the 16-bit number at an offset
unfoldable pub half_at : ℕ → List ℕ → ℕ
half_at offset file = little_number 2 (drop offset file)

-- the 32-bit number at an offset
unfoldable pub word_at : ℕ → List ℕ → ℕ
word_at offset file = little_number 4 (drop offset file)

-- e_entry: where the program begins
abbrev pub file_entry : List ℕ → ℕ
file_entry file = word_at 24 file

-- e_phoff: the offset of the program headers in the file
abbrev pub headers_offset : List ℕ → ℕ
headers_offset file = word_at 28 file

-- e_phnum: how many they are
abbrev pub headers_count : List ℕ → ℕ
headers_count file = half_at 44 file

-- the program header at an offset: p_type, p_offset, p_vaddr, p_filesz, p_memsz and p_flags
unfoldable pub header_at : List ℕ → ℕ → ProgramHeader
header_at file offset =
    record {
      kind = word_at offset file;
      offset = word_at (offset + 4) file;
      address = word_at (offset + 8) file;
      file_size = word_at (offset + 16) file;
      memory_size = word_at (offset + 20) file;
      flags = word_at (offset + 24) file;
    }

-- the program headers: they follow one another and have 32 bytes each
unfoldable pub program_headers : List ℕ → List ProgramHeader
program_headers file = map (λ k. header_at file (headers_offset file + 32 * k)) (range_with_len 0 (headers_count file))

-- PT_LOAD
abbrev pub is_load : ProgramHeader → Bool
is_load header = header.kind == 1

-- PT_DYNAMIC and PT_INTERP
abbrev pub is_dynamic : ProgramHeader → Bool
is_dynamic header = (header.kind == 2) || (header.kind == 3)

-- the headers of segments that are loaded
unfoldable pub load_headers : List ℕ → List ProgramHeader
load_headers file = filter is_load (program_headers file)

-- the segments: those of them that take memory
unfoldable pub segments : List ℕ → List ProgramHeader
segments file = filter (λ header. nat_lt 0 header.memory_size) (load_headers file)

-- the first address after a segment
abbrev pub end_of : ProgramHeader → ℕ
end_of segment = segment.address + segment.memory_size

-- whether two ranges of addresses, each up to its end, share an address
abbrev pub meet : ℕ → ℕ → ℕ → ℕ → Bool
meet start end other_start other_end = nat_lt (max start other_start) (min end other_end)

-- whether two segments share an address
abbrev pub share_address : ProgramHeader → ProgramHeader → Bool
share_address one other = meet one.address (end_of one) other.address (end_of other)

-- whether any two segments of a list do
abbrev pub overlap : List ProgramHeader → Bool
overlap [] = false
overlap (one ∷ rest) = list_any (share_address one) rest || overlap rest

-- whether a segment touches a page: they share an address
abbrev pub touches : ℕ → ProgramHeader → Bool
touches page segment = meet segment.address (end_of segment) (4096 * page) (4096 * page + 4096)

-- how many pages lie below the end of images
unfoldable pub image_page_limit : ℕ
image_page_limit = image_end_page

-- the numbers of the pages that segments touch, rising
unfoldable pub touched_pages : List ProgramHeader → List ℕ
touched_pages loaded = filter (λ page. list_any (touches page) loaded) (range_with_len 0 image_page_limit)

-- whether a segment gives a page a right: a bit of p_flags, PF_X 1, PF_W 2 and PF_R 4
abbrev pub gives : ℕ → ℕ → ProgramHeader → Bool
gives flag page segment = touches page segment && not (bit_and segment.flags flag == 0)

-- the rights of a page: all that a segment gives it
unfoldable pub page_rights : List ProgramHeader → ℕ → Rights
page_rights loaded page =
    record {
      0 = (if list_any (gives 4 page) loaded then 1 else 0)
          + ((if list_any (gives 2 page) loaded then 2 else 0)
          + (if list_any (gives 1 page) loaded then 4 else 0));
    }

-- whether a segment takes the byte at an address from the file
abbrev pub fills : ℕ → ProgramHeader → Bool
fills address segment = nat_le segment.address address && nat_lt address (segment.address + segment.file_size)

-- the byte of the file that it puts there
abbrev pub filled_byte : List ℕ → ℕ → ProgramHeader → ℕ
filled_byte file address segment = slice_index file (segment.offset + (address - segment.address))

-- the byte at an address: that of the segment that fills it, and 0 where none does
abbrev pub loaded_byte : List ℕ → List ProgramHeader → ℕ → ℕ
loaded_byte file [] address = 0
loaded_byte file (one ∷ rest) address = cond (fills address one) (filled_byte file address one) (loaded_byte file rest address)

-- so many bytes from an address on
unfoldable pub bytes_between : (ℕ → ℕ) → ℕ → ℕ → List ℕ
bytes_between byte_of start count = map (λ k. byte_of (start + k)) (range_with_len 0 count)

-- a page as the segments load it
unfoldable pub loaded_page : List ℕ → List ProgramHeader → ℕ → ImagePage
loaded_page file loaded page =
    record {
      number = page;
      page = record { rights = page_rights loaded page; bytes = bytes_between (loaded_byte file loaded) (4096 * page) 4096 };
    }

-- all pages that segments touch
unfoldable pub loaded_pages : List ℕ → List ProgramHeader → List ImagePage
loaded_pages file loaded = map (loaded_page file loaded) (touched_pages loaded)

-- the pages of a file
abbrev pub file_pages : List ℕ → List ImagePage
file_pages file = loaded_pages file (segments file)

-- 1: the file is shorter than an ELF header
abbrev pub is_short : List ℕ → Bool
is_short file = nat_lt (length file) 52

-- EI_MAG0 to EI_MAG3, little-endian: 7F, then `ELF`
abbrev pub magic : ℕ
magic = 0x464C_457F

-- the file has these four bytes, and begins with them
abbrev pub begins_as_elf : List ℕ → Bool
begins_as_elf file = nat_lt 3 (length file) && (word_at 0 file == magic)

-- 2: the file does not begin so
abbrev pub is_not_elf : List ℕ → Bool
is_not_elf file = not (word_at 0 file == magic)

-- 3: EI_CLASS is not ELFCLASS32, EI_DATA not ELFDATA2LSB or EI_VERSION not EV_CURRENT
abbrev pub is_wrong_class : List ℕ → Bool
is_wrong_class file = not ((file_byte 4 file == 1) && (file_byte 5 file == 1) && (file_byte 6 file == 1))

-- 4: e_type is not ET_EXEC or e_version not EV_CURRENT
abbrev pub is_wrong_type : List ℕ → Bool
is_wrong_type file = not ((half_at 16 file == 2) && (word_at 20 file == 1))

-- 5: e_machine is not EM_RISCV
abbrev pub is_wrong_machine : List ℕ → Bool
is_wrong_machine file = not (half_at 18 file == 243)

-- 6: e_flags asks for compressed instructions (1), a floating-point ABI (2 and 4) or RVE (8)
abbrev pub has_flags : List ℕ → Bool
has_flags file = not (bit_and (word_at 36 file) 15 == 0)

-- 7: there are program headers, and e_phentsize is not 32 or they do not lie in the file
abbrev pub has_no_headers : List ℕ → Bool
has_no_headers file = nat_lt 0 (headers_count file) && (not (half_at 42 file == 32) || nat_lt (length file) (headers_offset file + 32 * headers_count file))

-- 9: bytes that the segment takes from the file are after the file's end
abbrev pub is_out_of_file : ℕ → ProgramHeader → Bool
is_out_of_file size header = nat_lt 0 header.file_size && nat_lt size (header.offset + header.file_size)

-- 10: the segment takes more bytes from the file than it has in memory
abbrev pub is_larger_in_file : ProgramHeader → Bool
is_larger_in_file header = nat_lt header.memory_size header.file_size

-- 11: the segment has an address at or above the end of images
abbrev pub is_out_of_range : ProgramHeader → Bool
is_out_of_range header = nat_lt 0 header.memory_size && nat_lt image_end (end_of header)

-- the tests of the ELF header, and the first fault that they find
abbrev pub header_tests : List ℕ → List (Bool × ElfFault)
header_tests file =
    (is_short file, Short)
    ∷ (is_not_elf file, NotElf)
    ∷ (is_wrong_class file, WrongClass)
    ∷ (is_wrong_type file, WrongType)
    ∷ (is_wrong_machine file, WrongMachine)
    ∷ (has_flags file, Flags)
    ∷ (has_no_headers file, Headers)
    ∷ []

unfoldable pub header_fault : List ℕ → Option ElfFault
header_fault file = first_fault (header_tests file)

-- the tests of the program headers, each over all of them before the next, and the first fault
abbrev pub program_tests : List ℕ → List (Bool × ElfFault)
program_tests file =
    (list_any is_dynamic (program_headers file), Dynamic)
    ∷ (list_any (is_out_of_file (length file)) (load_headers file), SegmentOutOfFile)
    ∷ (list_any is_larger_in_file (load_headers file), SizeOrder)
    ∷ (list_any is_out_of_range (load_headers file), Range)
    ∷ []

unfoldable pub program_fault : List ℕ → Option ElfFault
program_fault file = first_fault (program_tests file)

-- the tests of the segments and their pages: two segments share an address, too many pages are
-- touched, or too many regions of 4 MiB, or the entry lies in no page with X; and the first fault
abbrev pub loading_tests : List ℕ → List (Bool × ElfFault)
loading_tests file =
    (overlap (segments file), Overlap)
    ∷ (nat_lt most_image_pages (length (file_pages file)), TooLarge)
    ∷ (nat_lt most_image_regions (length (regions (file_pages file))), TooSparse)
    ∷ (not (entered (file_entry file) (file_pages file)), EntryNotExecutable)
    ∷ []

unfoldable pub loading_fault : List ℕ → Option ElfFault
loading_fault file = first_fault (loading_tests file)

-- the first fault of the headers
abbrev pub early_fault : List ℕ → Option ElfFault
early_fault file = option_or (header_fault file) (program_fault file)

-- why a file holds no image: its first fault, and None where it has none
unfoldable pub file_fault : List ℕ → Option ElfFault
file_fault file = option_or (early_fault file) (loading_fault file)

-- the image of a file that has no fault; what may be written may be read
unfoldable pub file_image : List ℕ → ImageContent
file_image file = image_of_parts (file_entry file) (file_pages file)
