-- Why files don't give what is asked for. `gives` says, of a name, which bytes a file of that name may be found to hold. `withholds`
-- says whether such a file may be found unreadable.
use Rattle.std.specs.Prelude.{◌≡◌, ◌⊎◌, ◌++◌, ℕ, List, ◌∷◌, Option, None, Some}
use Rattle.elf_image.specs.Start.{Start}
use Rattle.image_files.specs.Faults.{IsUnread}
use Rattle.image_files.specs.FileFaults.{HasFault, HasSourceFault, IsNoText}
use Rattle.image_files.specs.Reading.{AreGiven}
use Rattle.image_files.specs.declared.fault.Fault.{Fault}
use Rattle.image_files.specs.declared.fault.Fault.TheVariants as fault

module _ (gives : List ℕ → List ℕ → Type 0) (withholds : List ℕ → Type 0) where
  -- a file can't be read, or the bytes that it is found to hold have a fault
  abbrev pub IsRefused : (List ℕ → List ℕ → Fault → Type 0) → List ℕ → Fault → Type 0
  IsRefused Has name why = IsUnread withholds name why ⊎ ((file : List ℕ) × (gives name file × Has name file why))

  -- no image, no listing, no text of a file
  abbrev pub GivesNoImage : List ℕ → Fault → Type 0
  GivesNoImage name why = IsRefused HasFault name why

  abbrev pub GivesNoListing : List ℕ → Fault → Type 0
  GivesNoListing name why = IsRefused HasSourceFault name why

  abbrev pub GivesNoText : List ℕ → Fault → Type 0
  GivesNoText name why = IsRefused IsNoText name why

  -- no input; where no file is named, only because there is not enough memory
  abbrev pub GivesNoInput : Option (List ℕ) → Fault → Type 0
  GivesNoInput None why = why ≡ fault.NoMemory
  GivesNoInput (Some name) why = IsUnread withholds name why

  -- a fault of one image, or want of memory; those above it were read
  pub record StopsAtImage (names : List (List ℕ)) (why : Fault) : Type 0 where
    pub above : List (List ℕ)
    pub name : List ℕ
    pub below : List (List ℕ)
    pub starts : List Start
    pub stands : names ≡ above ++ name ∷ below
    pub read : AreGiven gives None above starts
    pub refused : GivesNoImage name why

  -- a fault of the input, or want of memory; all images were read
  pub record StopsAtInput (input : Option (List ℕ)) (names : List (List ℕ)) (why : Fault) : Type 0 where
    pub starts : List Start
    pub read : AreGiven gives None names starts
    pub refused : GivesNoInput input why

  -- the first fault: of the images in their order, and then of the input
  abbrev pub StopsReading : Option (List ℕ) → List (List ℕ) → Fault → Type 0
  StopsReading input names why = StopsAtImage names why ⊎ StopsAtInput input names why
