-- What the command that assembles a source does with its request. `gives` relates a name to the bytes that a file of that name may be found
-- to hold. `accepts` relates a name to the bytes that a file of that name may be made of.
use Rattle.std.specs.Prelude.{ℕ, List}
use Rattle.command_line.specs.declared.request.AsmRequest.{AsmRequest}
use Rattle.elf_image.specs.WrittenFiles.{elf_file}
use Rattle.image_files.specs.Reading.{GivesListing}
use Rattle.rv_asm.specs.Listing.{ListingContent}

module _ (gives accepts : List ℕ → List ℕ → Type 0) where
  -- the source that is named was assembled, and the file that is named is made of the ELF file of its image
  pub record AsmAsAsked (request : AsmRequest) : Type 0 where
    pub listing : ListingContent
    pub listing_given : GivesListing gives request.source.now listing
    pub file_made : accepts request.target.now (elf_file listing.image)
