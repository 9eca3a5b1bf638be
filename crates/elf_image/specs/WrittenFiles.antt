-- The image file of an image: a little-endian ELF32 file with one segment for each run of its pages
-- (System V gABI, chapters "ELF Header" and "Program Header"; RISC-V psABI, "ELF Object Files"). A
-- file is a list of bytes.
use Rattle.std.specs.Prelude.{◌≡◌, ℕ, ◌+◌, ◌-◌, ◌*◌, ◌/◌, ◌^◌, ◌<◌, ◌==◌, Bool, ◌&&◌, cond, if◌then◌else◌, List, [], ◌∷◌, ◌++◌, length, replicate, flat_map, slice_index_or}
use Rattle.byteorder.specs.Endian.{little_bytes}
use Rattle.page_memory.specs.Rights.{may}
use Rattle.page_memory.specs.declared.rights.Rights.{Rights}
use Rattle.page_memory.specs.declared.words.Access.TheVariants.{Fetch, Load, Store}
use Rattle.elf_image.specs.declared.image.ImagePage.{ImagePage}
use Rattle.elf_image.specs.declared.runs.Run.{Run}
use Rattle.elf_image.specs.Image.{ImageContent, IsLawful, bytes_of}

-- the run of one page, which so many pages precede
abbrev pub run_of : ℕ → ImagePage → Run
run_of place listed = record { number = listed.number; place = place; count = 1; rights = listed.page.rights }

-- a run goes on with another that begins where it ends and has its rights
abbrev pub goes_on : Run → Run → Bool
goes_on run next = (run.number + run.count == next.number) && (run.rights.0 == next.rights.0)

-- a run and what follows it: one run with the next where it goes on with it
unfoldable pub joined : Run → List Run → List Run
joined run [] = run ∷ []
joined run (next ∷ later) = cond (goes_on run next) (record { number = run.number; place = run.place; count = run.count + next.count; rights = run.rights } ∷ later) (run ∷ next ∷ later)

-- the longest runs of neighbouring pages of equal rights, where so many pages precede these
unfoldable pub runs_from : ℕ → List ImagePage → List Run
runs_from place [] = []
runs_from place (listed ∷ rest) = joined (run_of place listed) (runs_from (place + 1) rest)

abbrev pub runs : List ImagePage → List Run
runs pages = runs_from 0 pages

-- 16-bit numbers as bytes, the lower of each first
abbrev pub halves : List ℕ → List ℕ
halves numbers = flat_map (little_bytes 2) numbers

-- e_ident: the magic number, then EI_CLASS, EI_DATA and EI_VERSION, and nine bytes of zero
abbrev pub identification : List ℕ
identification = 127 ∷ 69 ∷ 76 ∷ 70 ∷ 1 ∷ 1 ∷ 1 ∷ 0 ∷ 0 ∷ 0 ∷ 0 ∷ 0 ∷ 0 ∷ 0 ∷ 0 ∷ 0 ∷ []

-- e_type ET_EXEC and e_machine EM_RISCV
abbrev pub kind_and_machine : List ℕ
kind_and_machine = 2 ∷ 243 ∷ []

-- e_version, e_entry, e_phoff (after this header), e_shoff and e_flags
abbrev pub places_and_flags : ℕ → List ℕ
places_and_flags entry = 1 ∷ entry ∷ 52 ∷ 0 ∷ 0 ∷ []

-- e_ehsize, e_phentsize, e_phnum, e_shentsize, e_shnum and e_shstrndx
abbrev pub sizes_and_counts : ℕ → List ℕ
sizes_and_counts count = 52 ∷ 32 ∷ count ∷ 0 ∷ 0 ∷ 0 ∷ []

-- the ELF header, of 52 bytes
unfoldable pub file_header : ℕ → ℕ → List ℕ
file_header entry count = identification ++ (halves kind_and_machine ++ (bytes_of (places_and_flags entry) ++ halves (sizes_and_counts count)))

-- p_flags: PF_X is 1, PF_W is 2 and PF_R is 4
unfoldable pub flags_of : Rights → ℕ
flags_of rights = (if may Load rights then 4 else 0) + ((if may Store rights then 2 else 0) + (if may Fetch rights then 1 else 0))

-- p_type PT_LOAD, p_offset, p_vaddr, p_paddr, p_filesz, p_memsz, p_flags and p_align, where the
-- pages' bytes begin at an offset of the file
abbrev pub segment_words : ℕ → Run → List ℕ
segment_words start run = 1 ∷ (start + 4096 * run.place) ∷ (4096 * run.number) ∷ (4096 * run.number) ∷ (4096 * run.count) ∷ (4096 * run.count) ∷ flags_of run.rights ∷ 4096 ∷ []

-- a program header, of 32 bytes
unfoldable pub segment_header : ℕ → Run → List ℕ
segment_header start run = bytes_of (segment_words start run)

-- where the pages' bytes begin: at the next multiple of 4096 after so many program headers
unfoldable pub pages_offset : ℕ → ℕ
pages_offset count = (52 + 32 * count + 4095) / 4096 * 4096

-- the zeros before them
abbrev pub padding : ℕ → List ℕ
padding count = replicate (pages_offset count - (52 + 32 * count)) 0

-- the bytes of pages, one page after the other
abbrev pub page_bytes : List ImagePage → List ℕ
page_bytes pages = flat_map (λ listed. listed.page.bytes) pages

-- what precedes them: the headers and the zeros
unfoldable pub file_front : ℕ → List Run → List ℕ
file_front entry segments =
    file_header entry (length segments)
    ++ (flat_map (segment_header (pages_offset (length segments))) segments ++ padding (length segments))

-- the file of an image
unfoldable pub elf_file : ImageContent → List ℕ
elf_file image = file_front image.entry (runs image.pages) ++ page_bytes image.pages

-- the numbers of a program header have 32 bits
pub record HasRoom (start : ℕ) (run : Run) : Type 0 where
  pub filed : start + 4096 * run.place < 2 ^ 32
  pub low : 4096 * run.number < 2 ^ 32
  pub short : 4096 * run.count < 2 ^ 32

-- an image as the code holds it: lawful, its entry a word and its pages whole
pub record IsHeld (image : ImageContent) : Type 0 where
  pub lawful : IsLawful image
  pub entry : image.entry < 2 ^ 32
  pub whole : (i : ℕ) (d : ImagePage) → i < length image.pages → length (slice_index_or image.pages i d).page.bytes ≡ 4096
