-- Pages: a finite map from page numbers to pages, and what an access to it answers. An access is
-- refused where its address is no multiple of its width, then where no page is mapped there or the
-- page lacks the right (unprivileged manual, loads and stores; privileged manual, page faults).
use Rattle.std.specs.Prelude.{◌≡◌, ℕ, zero, suc, ◌+◌, ◌%◌, ◌==◌, ◌<◌, ◌≤◌, Bool, true, false, List, ◌++◌, length, replicate, take, drop, slice_index, Option, Some, None, option_map, Result, Ok, Err}
use Rattle.std.specs.Ordering.{nat_cmp}
use Rattle.std.specs.FinMap.{FinMap, get, insert}
use Rattle.byteorder.specs.Endian.{little_number, little_bytes}
use Rattle.page_memory.specs.declared.rights.Rights.{Rights}
use Rattle.page_memory.specs.declared.fault.MemoryFault.{MemoryFault}
use Rattle.page_memory.specs.declared.fault.MemoryFault.TheVariants.{Misaligned, PageFault}
use Rattle.page_memory.specs.declared.words.Access.{Access}
use Rattle.page_memory.specs.declared.words.Access.TheVariants.{Fetch, Load, Store}
use Rattle.page_memory.specs.declared.words.Width.{Width}
use Rattle.page_memory.specs.Words.{page_number, page_offset, bytes_in}
use Rattle.page_memory.specs.Rights.{read_write, may}

-- a page's rights and its 4096 bytes
pub record Page : Type 0 where
  pub rights : Rights
  pub bytes : List ℕ

abbrev pub Pages : Type 0
Pages = FinMap nat_cmp Page

-- what an answer of memory becomes by a function of its value; a fault stays
abbrev pub answer_by : {A B : Type 0} → (A → B) → Result A MemoryFault → Result B MemoryFault
answer_by f (Ok x) = Ok (f x)
answer_by f (Err fault) = Err fault

abbrev pub page_if : Bool → Page → Result Page MemoryFault
page_if true page = Ok page
page_if false page = Err PageFault

-- the page found, where it has the right
abbrev pub with_right : Access → Option Page → Result Page MemoryFault
with_right access None = Err PageFault
with_right access (Some page) = page_if (may access page.rights) page

-- the page that an access at an address may use
unfoldable pub usable : Pages → Access → ℕ → Result Page MemoryFault
usable memory access address = with_right access (get memory (page_number address))

abbrev pub if_aligned : Bool → Result Page MemoryFault → Result Page MemoryFault
if_aligned true found = found
if_aligned false found = Err Misaligned

-- the same for an access of so many bytes: alignment is tested first
unfoldable pub aligned_page : Pages → Access → ℕ → ℕ → Result Page MemoryFault
aligned_page memory access width address = if_aligned (address % width == 0) (usable memory access address)

-- the little-endian number in so many bytes of a page from an address on
abbrev pub number_at : ℕ → ℕ → Page → ℕ
number_at width address page = little_number width (drop (page_offset address) page.bytes)

-- a list with the bytes from a place on overwritten
abbrev pub overwritten : List ℕ → ℕ → List ℕ → List ℕ
overwritten old place new = take place old ++ (new ++ drop (place + length new) old)

-- the memory after bytes were written to a page, from an address on
abbrev pub memory_with : Pages → ℕ → List ℕ → Page → Pages
memory_with memory address bytes page = insert memory (page_number address) (record page { bytes = overwritten page.bytes (page_offset address) bytes })

-- the word fetched at an address
unfoldable pub fetched : Pages → ℕ → Result ℕ MemoryFault
fetched memory address = answer_by (number_at 4 address) (aligned_page memory Fetch 4 address)

-- the number loaded at an address, not yet extended to a word
unfoldable pub loaded : Pages → Width → ℕ → Result ℕ MemoryFault
loaded memory width address = answer_by (number_at (bytes_in width) address) (aligned_page memory Load (bytes_in width) address)

-- the memory after the low bytes of a word were stored at an address
unfoldable pub stored : Pages → Width → ℕ → ℕ → Result Pages MemoryFault
stored memory width address word =
    answer_by (memory_with memory address (little_bytes (bytes_in width) word)) (aligned_page memory Store (bytes_in width) address)

abbrev pub exchanged : Pages → (ℕ → ℕ) → ℕ → Page → ℕ × Pages
exchanged memory update address page =
    (number_at 4 address page, memory_with memory address (little_bytes 4 (update (number_at 4 address page))) page)

-- the old word at an address, and the memory in which it was replaced in the same step
unfoldable pub replaced : Pages → (ℕ → ℕ) → ℕ → Result (ℕ × Pages) MemoryFault
replaced memory update address = answer_by (exchanged memory update address) (aligned_page memory Store 4 address)

-- so many bytes from an address on, within its page
unfoldable pub copied_out : Pages → ℕ → ℕ → Result (List ℕ) MemoryFault
copied_out memory address count = answer_by (λ page. take count (drop (page_offset address) page.bytes)) (usable memory Load address)

-- the memory after bytes were copied to an address, within its page
unfoldable pub copied_in : Pages → ℕ → List ℕ → Result Pages MemoryFault
copied_in memory address bytes = answer_by (memory_with memory address bytes) (usable memory Store address)

-- the byte at an address, where a page is mapped there
unfoldable pub byte_at : Pages → ℕ → Option ℕ
byte_at memory address = option_map (λ page. slice_index page.bytes (page_offset address)) (get memory (page_number address))

-- a page of zeros that may be read and written
abbrev pub zero_page : Page
zero_page = record { rights = read_write; bytes = replicate 4096 0 }

abbrev pub zeroed_unless : Option Page → Pages → ℕ → Pages
zeroed_unless None memory number = insert memory number zero_page
zeroed_unless (Some page) memory number = memory

-- the memory with a page of zeros at a number where none is mapped
unfoldable pub zeroed_at : ℕ → Pages → Pages
zeroed_at number memory = zeroed_unless (get memory number) memory number

-- the memory with pages of zeros at so many numbers from the first on, wherever none is mapped
unfoldable pub with_zeroed : ℕ → ℕ → Pages → Pages
with_zeroed first zero memory = memory
with_zeroed first (suc count) memory = zeroed_at (first + count) (with_zeroed first count memory)

-- of so many page numbers from the first on, one at which no page is mapped
pub record HasGap (first count : ℕ) (memory : Pages) : Type 0 where
  pub number : ℕ
  pub above : first ≤ number
  pub below : number < first + count
  pub absent : get memory number ≡ None
