-- Why the bytes of a file are no image. Each fault is reported by its number, and with the name of the file.
use Rattle.std.specs.Prelude.{◌≡◌, ◌≢◌, ℕ, ◌<◌, ⊤, List, [], length, Some}
use Rattle.std.specs.Str.{IsUtf8}
use Rattle.asm_lines.specs.Faults.{fault_number as kind_number}
use Rattle.asm_lines.specs.declared.fault.FaultKind.{FaultKind}
use Rattle.elf_image.specs.ElfFiles.{early_fault, file_fault}
use Rattle.elf_image.specs.Faults.{fault_number}
use Rattle.elf_image.specs.Image.{most_words}
use Rattle.elf_image.specs.declared.fault.ElfFault.{ElfFault}
use Rattle.elf_image.specs.declared.fault.ElfFault.TheVariants.{TooLarge, EntryNotExecutable, NoMemory}
use Rattle.rv_asm.specs.Assembly.{FirstFault}
use Rattle.image_files.specs.ImageKind.{BeginsAsElf, BeginsAsWords}
use Rattle.image_files.specs.WordsFile.{IsWordsFile, words_in}
use Rattle.image_files.specs.declared.fault.Fault.{Fault}
use Rattle.image_files.specs.declared.fault.Fault.TheVariants as fault

-- an ELF file has this fault; or there is not enough memory, and its headers have no other fault
abbrev pub HasElfFault : List ℕ → List ℕ → Fault → Type 0
HasElfFault name file (fault.ElfFault named number) = (named.now ≡ name) × ((elf : ElfFault) × ((file_fault file ≡ Some elf) × (number ≡ fault_number elf)))
HasElfFault name file fault.NoMemory = (elf : ElfFault) → elf ≢ NoMemory → ¬ (early_fault file ≡ Some elf)
HasElfFault name file _ = ⊥

-- why words are no image: they are too many, or there is none
abbrev pub IsFaultOfWords : List ℕ → ElfFault → Type 0
IsFaultOfWords words TooLarge = most_words < length words
IsFaultOfWords words EntryNotExecutable = words ≡ []
IsFaultOfWords words _ = ⊥

-- the lines of a file are not words, or the words are no image; or there is not enough memory
abbrev pub HasWordsFault : List ℕ → List ℕ → Fault → Type 0
HasWordsFault name file (fault.BadWords named) = (named.now ≡ name) × (¬ IsWordsFile file)
HasWordsFault name file (fault.ElfFault named number) =
    (named.now ≡ name) × (IsWordsFile file × ((elf : ElfFault) × (IsFaultOfWords (words_in file) elf × (number ≡ fault_number elf))))
HasWordsFault name file fault.NoMemory = ⊤
HasWordsFault name file _ = ⊥

-- bytes that are no text
abbrev pub IsNoText : List ℕ → List ℕ → Fault → Type 0
IsNoText name file (fault.CannotRead named) = (named.now ≡ name) × (¬ IsUtf8 file)
IsNoText name file _ = ⊥

-- a source is no text, or has this first fault; or there is not enough memory
abbrev pub HasSourceFault : List ℕ → List ℕ → Fault → Type 0
HasSourceFault name file (fault.CannotRead named) = (named.now ≡ name) × (¬ IsUtf8 file)
HasSourceFault name file (fault.Source named line number) = (named.now ≡ name) × ((kind : FaultKind) × (FirstFault file line kind × (number ≡ kind_number kind)))
HasSourceFault name file fault.NoMemory = ⊤
HasSourceFault name file _ = ⊥

-- the fault of a file that is to hold an image, by what it is
pub record HasFault (name file : List ℕ) (why : Fault) : Type 0 where
  pub elf : BeginsAsElf file → HasElfFault name file why
  pub words : (¬ BeginsAsElf file) → BeginsAsWords file → HasWordsFault name file why
  pub source : (¬ BeginsAsElf file) → (¬ BeginsAsWords file) → HasSourceFault name file why
