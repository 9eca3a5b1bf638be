-- What is read from files. Bytes that give an image have no fault.
use Rattle.std.specs.Prelude.{◌≡◌, ℕ, ⊤, List, [], ◌∷◌, Option, Some, None}
use Rattle.std.specs.Str.{IsUtf8}
use Rattle.asm_lines.specs.declared.fault.FaultKind.{FaultKind}
use Rattle.elf_image.specs.ElfFiles.{file_fault, file_image}
use Rattle.elf_image.specs.Image.{ImageContent, image_of_words}
use Rattle.elf_image.specs.Start.{Start}
use Rattle.elf_image.specs.declared.fault.ElfFault.{ElfFault}
use Rattle.rv_asm.specs.Assembly.{Assembles, FirstFault}
use Rattle.rv_asm.specs.Listing.{ListingContent}
use Rattle.image_files.specs.FileFaults.{IsFaultOfWords}
use Rattle.image_files.specs.ImageKind.{BeginsAsElf, BeginsAsWords}
use Rattle.image_files.specs.WordsFile.{IsWordsFile, words_in}

-- the image that an ELF file says
pub record IsElfImage (file : List ℕ) (image : ImageContent) : Type 0 where
  pub faultless : file_fault file ≡ None
  pub image_is : image ≡ file_image file

-- the image of words, one on each line below the first
pub record IsWordsImage (file : List ℕ) (image : ImageContent) : Type 0 where
  pub lawful : IsWordsFile file
  pub faultless : (fault : ElfFault) → ¬ IsFaultOfWords (words_in file) fault
  pub image_is : image ≡ image_of_words (words_in file)

-- what a source is assembled to
pub record IsListing (file : List ℕ) (listing : ListingContent) : Type 0 where
  pub text : IsUtf8 file
  pub faultless : (line : ℕ) (kind : FaultKind) → ¬ FirstFault file line kind
  pub assembles : Assembles file listing

abbrev pub IsSourceImage : List ℕ → ImageContent → Type 0
IsSourceImage file image = (listing : ListingContent) × (IsListing file listing × (image ≡ listing.image))

-- the image that a file holds: of an ELF file what it says, of a list of words those, and else what its source is assembled to
pub record HoldsImage (file : List ℕ) (image : ImageContent) : Type 0 where
  pub elf : BeginsAsElf file → IsElfImage file image
  pub words : (¬ BeginsAsElf file) → BeginsAsWords file → IsWordsImage file image
  pub source : (¬ BeginsAsElf file) → (¬ BeginsAsWords file) → IsSourceImage file image

-- `gives` says, of a name, which bytes a file of that name may be found to hold
module _ (gives : List ℕ → List ℕ → Type 0) where
  -- the image of such bytes
  pub record GivesImage (name : List ℕ) (image : ImageContent) : Type 0 where
    pub file : List ℕ
    pub given : gives name file
    pub holds : HoldsImage file image

  -- what such bytes, as a source, are assembled to
  pub record GivesListing (name : List ℕ) (listing : ListingContent) : Type 0 where
    pub file : List ℕ
    pub given : gives name file
    pub lists : IsListing file listing

  -- an input: such bytes, or none where no file is named
  abbrev pub GivesInput : Option (List ℕ) → List ℕ → Type 0
  GivesInput None input = input ≡ []
  GivesInput (Some name) input = gives name input

  -- What processes are started from: by their order the images of files, the first on an input, the others on none.
  unfoldable pub AreGiven : Option (List ℕ) → List (List ℕ) → List Start → Type 0
  AreGiven input [] [] = ⊤
  AreGiven input [] (start ∷ starts) = ⊥
  AreGiven input (name ∷ names) [] = ⊥
  AreGiven input (name ∷ names) (start ∷ starts) = GivesImage name start.image × (GivesInput input start.input × AreGiven None names starts)
