-- Memory: its pages, and the words that harts have reserved; and what an access to it answers. Only what writes bytes ends
-- reservations.
use Rattle.std.specs.Prelude.{ℕ, Bool, true, false, List, length, Option, Result}
use Rattle.page_memory.specs.declared.fault.MemoryFault.{MemoryFault}
use Rattle.page_memory.specs.declared.words.Width.{Width}
use Rattle.page_memory.specs.declared.words.Width.TheVariants.{Word}
use Rattle.page_memory.specs.Words.{bytes_in}
use Rattle.page_memory.specs.Pages.{Pages, answer_by}
use Rattle.page_memory.specs.Pages as plain
use Rattle.page_memory.specs.Reservations.{Reservations, none_reserved, has_reserved, with_reserved, without_reserved, left_by}

pub record Memory : Type 0 where
  pub pages : Pages
  pub reserved : Reservations

-- pages of which no word is reserved
abbrev pub unreserved : Pages → Memory
unreserved pages = record { pages = pages; reserved = none_reserved }

-- ---- what reads looks at pages alone

-- the word fetched at an address
abbrev pub fetched : Memory → ℕ → Result ℕ MemoryFault
fetched memory address = plain.fetched memory.pages address

-- the number loaded at an address, not yet extended to a word
abbrev pub loaded : Memory → Width → ℕ → Result ℕ MemoryFault
loaded memory width address = plain.loaded memory.pages width address

-- so many bytes from an address on, within its page
abbrev pub copied_out : Memory → ℕ → ℕ → Result (List ℕ) MemoryFault
copied_out memory address count = plain.copied_out memory.pages address count

-- the byte at an address, where a page is mapped there
abbrev pub byte_at : Memory → ℕ → Option ℕ
byte_at memory address = plain.byte_at memory.pages address

-- ---- what writes ends the reservations of the words of which it writes a byte

-- the memory with these pages, in which so many bytes from an address on were written
abbrev pub written : Memory → ℕ → ℕ → Pages → Memory
written memory address count pages = record { pages = pages; reserved = left_by address count memory.reserved }

-- the memory after the low bytes of a word were stored at an address
unfoldable pub stored : Memory → Width → ℕ → ℕ → Result Memory MemoryFault
stored memory width address word = answer_by (written memory address (bytes_in width)) (plain.stored memory.pages width address word)

abbrev pub exchanged : Memory → ℕ → ℕ × Pages → ℕ × Memory
exchanged memory address answer = (answer.0, written memory address 4 answer.1)

-- the old word at an address, and the memory in which it was replaced in the same step
unfoldable pub replaced : Memory → (ℕ → ℕ) → ℕ → Result (ℕ × Memory) MemoryFault
replaced memory update address = answer_by (exchanged memory address) (plain.replaced memory.pages update address)

-- the memory after bytes were copied to an address, within its page
unfoldable pub copied_in : Memory → ℕ → List ℕ → Result Memory MemoryFault
copied_in memory address bytes = answer_by (written memory address (length bytes)) (plain.copied_in memory.pages address bytes)

-- ---- load-reserved and store-conditional

-- the word loaded, and the memory in which a hart has reserved it
abbrev pub reserving : Memory → ℕ → ℕ → ℕ → ℕ × Memory
reserving memory hart address word = (word, record memory { reserved = with_reserved hart address memory.reserved })

unfoldable pub loaded_reserved : Memory → ℕ → ℕ → Result (ℕ × Memory) MemoryFault
loaded_reserved memory hart address = answer_by (reserving memory hart address) (plain.loaded memory.pages Word address)

-- the hart's reservation is gone
abbrev pub released : Memory → ℕ → Memory
released memory hart = record memory { reserved = without_reserved hart memory.reserved }

-- whether the word was stored, by whether the hart had it reserved, and the memory then
abbrev pub stored_if : Bool → Memory → ℕ → ℕ → Pages → Bool × Memory
stored_if true memory hart address pages = (true, written (released memory hart) address 4 pages)
stored_if false memory hart address pages = (false, released memory hart)

-- A word is stored only where the hart has reserved it, and its reservation goes in both cases. Whether it may be stored is tested
-- first, as of any store.
unfoldable pub stored_conditionally : Memory → ℕ → ℕ → ℕ → Result (Bool × Memory) MemoryFault
stored_conditionally memory hart address word =
    answer_by (stored_if (has_reserved hart address memory.reserved) memory hart address) (plain.stored memory.pages Word address word)

-- ---- mapping

-- the memory with pages of zeros at so many numbers from the first on, wherever none is mapped
abbrev pub with_zeroed : ℕ → ℕ → Memory → Memory
with_zeroed first count memory = record memory { pages = plain.with_zeroed first count memory.pages }
