-- What an assembled program is: its entry, its pages, its words and the bytes of its data.
use Rattle.std.specs.Prelude.{◌≡◌, ℕ, ◌+◌, ◌/◌, ◌==◌, nat_lt, List, ◌++◌, length, map, codes, Option, Some, None, Result, Ok, Err, Bool, true, false}
use Rattle.page_memory.specs.declared.rights.Rights.{Rights}
use Rattle.page_memory.specs.Rights.{read_write, read_execute}
use Rattle.page_memory.specs.MemoryMap.{text_start, text_first_page}
use Rattle.elf_image.specs.Image.{ImageContent, bytes_of}
use Rattle.elf_image.specs.BytePages.{byte_pages}
use Rattle.rv_isa.specs.declared.instruction.Insn.{Insn}
use Rattle.asm_lines.specs.declared.fault.FaultKind.TheVariants.{Empty}
use Rattle.asm_statements.specs.declared.section.Section.{Section}
use Rattle.asm_statements.specs.declared.section.Section.TheVariants.{Text, Data}
use Rattle.rv_asm.specs.declared.label_place.LabelPlace.{LabelPlace}
use Rattle.rv_asm.specs.declared.item.Item.{Item}
use Rattle.rv_asm.specs.Steps.{FaultAt, chained, map_value}
use Rattle.rv_asm.specs.Program.{size, label_place, section_start}
use Rattle.rv_asm.specs.FirstPass.{first_pass}
use Rattle.rv_asm.specs.SecondPass.{Sections, second_pass}
use Rattle.rv_asm.specs.Words.{Spell, instruction_of}

-- the rights of the text's pages: to read and to execute; and of the data's: to read and to write
abbrev pub text_rights : Rights
text_rights = read_execute

abbrev pub data_rights : Rights
data_rights = read_write

-- the entry: the label `_start`, where it is in the text before its end; else where the text begins
abbrev pub entry_point_if : Bool → ℕ → ℕ
entry_point_if true offset = text_start + offset
entry_point_if false offset = text_start

abbrev pub entry_point_in : ℕ → Section → ℕ → ℕ
entry_point_in end Text offset = entry_point_if (nat_lt offset end) offset
entry_point_in end Data offset = text_start

abbrev pub entry_point_at : ℕ → Option LabelPlace → ℕ
entry_point_at end None = text_start
entry_point_at end (Some place) = entry_point_in end place.section place.offset

unfoldable pub entry_point_of : List Item → ℕ
entry_point_of items = entry_point_at (size Text items) (label_place items (codes "_start"))

-- a program with its sections
pub record Assembly : Type 0 where
  pub items : List Item
  pub sections : Sections

-- what is known of a listing
pub record ListingContent : Type 0 where
  pub image : ImageContent
  pub words : List ℕ
  pub instructions : List (Option Insn)
  pub data_bytes : ℕ

-- the image of words and bytes of a program
unfoldable pub image_of : List Item → List ℕ → List ℕ → ImageContent
image_of items words bytes =
    record {
      entry = entry_point_of items;
      pages = byte_pages text_first_page text_rights (bytes_of words) ++ byte_pages (section_start items Data / 4096) data_rights bytes;
    }

-- a listing of an assembly
pub record Lists (assembly : Assembly) (listing : ListingContent) : Type 0 where
  pub words : Spell listing.words assembly.sections.text
  pub instructions : listing.instructions ≡ map instruction_of assembly.sections.text
  pub image : listing.image ≡ image_of assembly.items listing.words assembly.sections.bytes
  pub data_bytes : listing.data_bytes ≡ length assembly.sections.bytes

-- a source with no word of text
abbrev pub unless_empty : Bool → List Item → Result Assembly FaultAt
unless_empty true items = Err (record { line = 0; kind = Empty })
unless_empty false items = map_value (λ sections. record { items = items; sections = sections }) (second_pass items)

unfoldable pub laid_out : List Item → Result Assembly FaultAt
laid_out items = unless_empty (size Text items == 0) items

-- the assembly of a source, or its first fault
unfoldable pub assembled : List ℕ → Result Assembly FaultAt
assembled source = chained (λ progress. laid_out progress.items) (first_pass source)

-- a listing of the result, where it is an assembly
abbrev pub ListsTold : Result Assembly FaultAt → ListingContent → Type 0
ListsTold (Ok assembly) listing = Lists assembly listing
ListsTold (Err fault) listing = ⊥
