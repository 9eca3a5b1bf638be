-- Decoded pages, and the memory that they show: code that no access changes.
use Rattle.std.specs.Prelude.{◌≡◌, ℕ, ◌+◌, ◌*◌, ◌%◌, ◌^◌, ◌<◌, Bool, true, false, if◌then◌else◌, slice_index_or, length, Some, IfSome, All}
use Rattle.std.specs.FinMap.{get}
use Rattle.page_memory.specs.declared.words.Access.TheVariants.{Fetch, Store}
use Rattle.page_memory.specs.declared.rights.Rights.{Rights}
use Rattle.page_memory.specs.Rights.{may}
use Rattle.page_memory.specs.Words.{page_number}
use Rattle.page_memory.specs.Pages.{Page, number_at}
use Rattle.page_memory.specs.Memory.{Memory}
use Rattle.decoded_pages.specs.declared.instruction.DecodedInstruction.{DecodedInstruction}
use Rattle.decoded_pages.specs.declared.page.DecodedPage.{DecodedPage}
use Rattle.decoded_pages.specs.declared.pages.DecodedPages.{DecodedPages}
use Rattle.decoded_pages.specs.Classes.{class_of, Undecoded, EndsLine}
use Rattle.decoded_pages.specs.Stands.{Stands}

-- whether a page with these rights may be run and never written
abbrev pub is_code : Rights → Bool
is_code rights = if may Store rights then false else may Fetch rights

-- the instructions represent the words of a page that starts there; after the last is one that is not decoded
pub record IsDecoded (page : DecodedPage) (content : Page) : Type 0 where
  pub aligned : page.start % 4096 ≡ 0
  pub small : page.start < 2 ^ 32
  pub whole : length page.instructions.items ≡ 1025
  pub stands : (place : ℕ) (d : DecodedInstruction) → place < 1024
      → Stands (slice_index_or page.instructions.items place d) page.start place (number_at 4 (page.start + place * 4) content)
  pub counted : length page.ends.items ≡ 1025
  pub lines : (place : ℕ) (d : DecodedInstruction) (e : ℕ) → place < 1024
      → EndsLine (class_of (slice_index_or page.instructions.items place d).operation) place (slice_index_or page.ends.items place e) (slice_index_or page.ends.items (place + 1) e)
  pub last : (d : DecodedInstruction) → class_of (slice_index_or page.instructions.items 1024 d).operation ≡ Undecoded

-- memory has that page at its place, and it may be run and not written
pub record Shows (page : DecodedPage) (memory : Memory) : Type 0 where
  pub content : Page
  pub decoded : IsDecoded page content
  pub found : get memory.pages (page_number page.start) ≡ Some content
  pub code : is_code content.rights ≡ true

-- the same of each page that was decoded
abbrev pub ShowsAll : DecodedPages → Memory → Type 0
ShowsAll decoded memory = All (λ slot. IfSome slot (λ page. Shows page memory)) decoded.pages.items
