-- What the tests of program headers leave to be known of each segment.
use Rattle.std.specs.Prelude.{ℕ, ◌≡◌, ◌≢◌, ◌+◌, ◌<◌, ◌≤◌, ◌==◌, Bool, not, ◌&&◌, nat_lt, bit_and, if◌then◌else◌, List, length}
use Rattle.std.specs.List.{list_any}
use Rattle.page_memory.specs.MemoryMap.{image_end, most_image_pages}
use Rattle.page_memory.specs.declared.rights.Rights.{Rights}
use Rattle.elf_image.specs.declared.program_header.ProgramHeader.{ProgramHeader}
use Rattle.elf_image.specs.declared.fault.ElfFault.{ElfFault}
use Rattle.elf_image.specs.declared.fault.ElfFault.TheVariants.{TooLarge, NoMemory}
use Rattle.elf_image.specs.ElfFiles.{end_of, is_load, touched_pages}

-- a segment that passed them, in a file of so many bytes
pub record IsSoundSegment (size : ℕ) (segment : ProgramHeader) : Type 0 where
  pub full : 0 < segment.memory_size
  pub low : end_of segment ≤ image_end
  pub shorter : segment.file_size ≤ segment.memory_size
  pub filed : 0 < segment.file_size → segment.offset + segment.file_size ≤ size

-- whether a header's segment is loaded and takes memory
abbrev pub is_segment : ProgramHeader → Bool
is_segment header = is_load header && nat_lt 0 header.memory_size

-- whether p_flags has a bit
abbrev pub has_flag : ℕ → ProgramHeader → Bool
has_flag flag segment = not (bit_and segment.flags flag == 0)

-- the rights that segments give a page that each of them touches
unfoldable pub given_rights : List ProgramHeader → Rights
given_rights run =
    record {
      0 = (if list_any (has_flag 4) run then 1 else 0)
          + ((if list_any (has_flag 2) run then 2 else 0)
          + (if list_any (has_flag 1) run then 4 else 0));
    }

-- a fault that says that segments touch more pages than an image may have, or that there is not enough memory
abbrev pub TouchTooMany : List ProgramHeader → ElfFault → Type 0
TouchTooMany loaded fault = fault ≢ NoMemory → (fault ≡ TooLarge) × (most_image_pages < length (touched_pages loaded))
