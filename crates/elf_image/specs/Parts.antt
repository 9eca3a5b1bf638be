-- Images from parts: an entry and pages that come in a list.
use Rattle.std.specs.Prelude.{ℕ, nat_lt, nat_le, Bool, true, not, ◌&&◌, cond, List, [], ◌∷◌, length, map, Option, Some, None}
use Rattle.std.specs.List.{list_any}
use Rattle.page_memory.specs.MemoryMap.{image_end_page, most_image_pages, most_image_regions}
use Rattle.page_memory.specs.Rights.{readable}
use Rattle.elf_image.specs.declared.image.ImagePage.{ImagePage}
use Rattle.elf_image.specs.declared.fault.ElfFault.{ElfFault}
use Rattle.elf_image.specs.declared.fault.ElfFault.TheVariants.{Range, Overlap, TooLarge, TooSparse, EntryNotExecutable}
use Rattle.elf_image.specs.Image.{ImageContent, lies_in_code}
use Rattle.elf_image.specs.Regions.{regions}

-- a page, which may be read too where it may be written
unfoldable pub readable_page : ImagePage → ImagePage
readable_page listed = record { number = listed.number; page = record { rights = readable listed.page.rights; bytes = listed.page.bytes } }

-- the image of parts
unfoldable pub image_of_parts : ℕ → List ImagePage → ImageContent
image_of_parts entry pages = record { entry = entry; pages = map readable_page pages }

-- a page lies at or above the end of images
unfoldable pub too_high : List ImagePage → Bool
too_high pages = list_any (λ listed. nat_le image_end_page listed.number) pages

-- each number is below the next
unfoldable pub rising : List ImagePage → Bool
rising [] = true
rising (one ∷ []) = true
rising (one ∷ next ∷ rest) = nat_lt one.number next.number && rising (next ∷ rest)

-- the entry lies in a page that may be executed
unfoldable pub entered : ℕ → List ImagePage → Bool
entered entry pages = lies_in_code entry pages

-- the first fault of those whose test holds
abbrev pub first_fault : List (Bool × ElfFault) → Option ElfFault
first_fault [] = None
first_fault (test ∷ tests) = cond test.0 (Some test.1) (first_fault tests)

-- why parts make no image
unfoldable pub parts_fault : ℕ → List ImagePage → Option ElfFault
parts_fault entry pages =
    first_fault (
    (too_high pages, Range)
    ∷ (not (rising pages), Overlap)
    ∷ (nat_lt most_image_pages (length pages), TooLarge)
    ∷ (nat_lt most_image_regions (length (regions pages)), TooSparse)
    ∷ (not (entered entry pages), EntryNotExecutable)
    ∷ []
    )
