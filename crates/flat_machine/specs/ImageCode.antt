-- Memory that has the pages of an image.
use Rattle.std.specs.Prelude.{◌≡◌, ℕ, ◌<◌, List, length, slice_index_or, Some}
use Rattle.std.specs.FinMap.{get}
use Rattle.elf_image.specs.declared.image.ImagePage.{ImagePage}
use Rattle.page_memory.specs.Memory.{Memory}

-- each page of an image is at its number
abbrev pub HasImage : List ImagePage → Memory → Type 0
HasImage pages memory = (i : ℕ) (d : ImagePage) → i < length pages
    → get memory.pages (slice_index_or pages i d).number ≡ Some (slice_index_or pages i d).page
