-- An image that was made of a file's bytes, and the fault that is told where none was.
use Rattle.std.proofs.Common.{◌≡◌, ◌∙◌, ℕ, ◌<◌, List, [], Result, Ok, Err, subst, sym, inl, inr}
use Rattle.std.specs.Prelude.{◌≢◌, ◌↔◌, ◌⊎◌}
use Rattle.std.specs.Str.{IsUtf8}
use Rattle.asm_lines.specs.declared.fault.FaultKind.{FaultKind}
use Rattle.elf_image.specs.declared.fault.ElfFault.TheVariants.{NoMemory}
use Rattle.rv_asm.specs.Assembly.{Assembles, FirstFault}
use Rattle.rv_asm.specs.Listing.{ListingContent}
use Rattle.rv_asm.specs.declared.fault.AsmError.{AsmError}
use Rattle.rv_asm.specs.declared.fault.AsmError.TheVariants as asm
use Rattle.image_files.specs.Reading.{IsListing}
use Rattle.image_files.specs.declared.fault.Fault.{Fault}
use Rattle.image_files.specs.declared.fault.Fault.TheVariants as fault

-- ---- a source

pub listing_made : (file source : List ℕ) (made : Result ListingContent AsmError) (listing : ListingContent) → source ≡ file → IsUtf8 file → made ≡ Ok listing → Assembles source listing
    → ((line : ℕ) (kind : FaultKind) → FirstFault source line kind → (made ≡ Err (asm.Fault line kind)) ⊎ (made ≡ Err asm.NoMemory)) → IsListing file listing
listing_made file source made listing same text is assembles exact =
    record {
      text = text;
      faultless = λ line kind h. none line kind (exact line kind (subst (λ l. FirstFault l line kind) (sym same) h));
      assembles = subst (λ l. Assembles l listing) same assembles;
    }
  where
    none : (line : ℕ) (kind : FaultKind) → (made ≡ Err (asm.Fault line kind)) ⊎ (made ≡ Err asm.NoMemory) → ⊥
    none line kind (inl e) = cc
    none line kind (inr e) = cc
