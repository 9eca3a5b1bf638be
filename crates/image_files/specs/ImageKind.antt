-- In which of the three ways a file holds an image.
use Rattle.std.specs.Prelude.{◌≡◌, ℕ, List, [], ◌∷◌, IsTrue, take, codes}
use Rattle.elf_image.specs.ElfFiles.{begins_as_elf}
use Rattle.text_lines.specs.Text.{lines_of}

-- the four bytes with which ELF files begin
abbrev pub BeginsAsElf : List ℕ → Type 0
BeginsAsElf bytes = IsTrue (begins_as_elf bytes)

-- a first line `.words`
abbrev pub BeginsAsWords : List ℕ → Type 0
BeginsAsWords bytes = take 1 (lines_of bytes) ≡ codes ".words" ∷ []
