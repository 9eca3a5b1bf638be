-- What an access to memory answers, by what its pages answer.
use Rattle.std.proofs.Common.{◌≡◌, ℕ, Bool, false, List, length, Result, Ok, Err, ap, ◌∙◌, sym}
use Rattle.page_memory.specs.declared.fault.MemoryFault.{MemoryFault}
use Rattle.page_memory.specs.declared.words.Access.TheVariants.{Store}
use Rattle.page_memory.specs.declared.words.Width.{Width}
use Rattle.page_memory.specs.declared.words.Width.TheVariants.{Word}
use Rattle.byteorder.specs.Endian.{little_bytes}
use Rattle.page_memory.specs.Words.{bytes_in}
use Rattle.page_memory.specs.Pages.{Pages, Page, answer_by, aligned_page, number_at, memory_with}
use Rattle.page_memory.specs.Pages as plain
use Rattle.page_memory.specs.Reservations.{Reservations, has_reserved, with_reserved, without_reserved}
use Rattle.page_memory.specs.Memory.{Memory, written, stored, replaced, copied_in, exchanged, loaded_reserved, reserving, stored_conditionally, stored_if}

-- ---- stores

pub stored_of : (memory : Memory) (width : Width) (address word : ℕ) (pages : Pages)
    → plain.stored memory.pages width address word ≡ Ok pages → stored memory width address word ≡ Ok (written memory address (bytes_in width) pages)
unfolding stored
stored_of memory width address word pages is = ap (answer_by (written memory address (bytes_in width))) is

pub stored_fault : (memory : Memory) (width : Width) (address word : ℕ) (fault : MemoryFault)
    → plain.stored memory.pages width address word ≡ Err fault → stored memory width address word ≡ Err fault
unfolding stored
stored_fault memory width address word fault is = ap (answer_by (written memory address (bytes_in width))) is

pub ruleset storing = (stored_of, stored_fault)

-- ---- words that are replaced

pub replaced_of : (memory : Memory) (update : ℕ → ℕ) (address old : ℕ) (pages : Pages)
    → plain.replaced memory.pages update address ≡ Ok (old, pages) → replaced memory update address ≡ Ok (old, written memory address 4 pages)
unfolding replaced
replaced_of memory update address old pages is = ap (answer_by (exchanged memory address)) is

-- ---- copies

pub copied_of : (memory : Memory) (address : ℕ) (bytes : List ℕ) (pages : Pages)
    → plain.copied_in memory.pages address bytes ≡ Ok pages → copied_in memory address bytes ≡ Ok (written memory address (length bytes) pages)
unfolding copied_in
copied_of memory address bytes pages is = ap (answer_by (written memory address (length bytes))) is

pub copied_fault : (memory : Memory) (address : ℕ) (bytes : List ℕ) (fault : MemoryFault)
    → plain.copied_in memory.pages address bytes ≡ Err fault → copied_in memory address bytes ≡ Err fault
unfolding copied_in
copied_fault memory address bytes fault is = ap (answer_by (written memory address (length bytes))) is

pub ruleset copying = (copied_of, copied_fault)

-- ---- load-reserved

pub reserved_of : (memory : Memory) (hart address word : ℕ) (pages : Pages) (reserved : Reservations)
    → plain.loaded memory.pages Word address ≡ Ok word → pages ≡ memory.pages → reserved ≡ with_reserved hart address memory.reserved
    → loaded_reserved memory hart address ≡ Ok (word, record { pages = pages; reserved = reserved })
unfolding loaded_reserved
reserved_of memory hart address word pages reserved is stays made =
    ap (answer_by (reserving memory hart address)) is ∙ ap (λ p. Ok (word, record { pages = p; reserved = with_reserved hart address memory.reserved })) (sym stays)
    ∙ ap (λ r. Ok (word, record { pages = pages; reserved = r })) (sym made)

pub reserved_fault : (memory : Memory) (hart address : ℕ) (fault : MemoryFault)
    → plain.loaded memory.pages Word address ≡ Err fault → loaded_reserved memory hart address ≡ Err fault
unfolding loaded_reserved
reserved_fault memory hart address fault is = ap (answer_by (reserving memory hart address)) is

pub ruleset reserving_load = (reserved_of, reserved_fault)

-- ---- store-conditional

pub conditional_of : (memory : Memory) (hart address word : ℕ) (has : Bool) (pages : Pages)
    → has_reserved hart address memory.reserved ≡ has → plain.stored memory.pages Word address word ≡ Ok pages
    → stored_conditionally memory hart address word ≡ Ok (stored_if has memory hart address pages)
unfolding stored_conditionally
conditional_of memory hart address word has pages held is =
    ap (λ h. answer_by (stored_if h memory hart address) (plain.stored memory.pages Word address word)) held ∙ ap (answer_by (stored_if has memory hart address)) is

pub conditional_fault : (memory : Memory) (hart address word : ℕ) (fault : MemoryFault)
    → plain.stored memory.pages Word address word ≡ Err fault → stored_conditionally memory hart address word ≡ Err fault
unfolding stored_conditionally
conditional_fault memory hart address word fault is = ap (answer_by (stored_if (has_reserved hart address memory.reserved) memory hart address)) is

-- whether a word may be stored is what a load of it for replacing tests
abbrev pub tested : ℕ → Result Page MemoryFault → Result ℕ MemoryFault
tested address found = answer_by (number_at 4 address) found

pub untested : (memory : Memory) (hart address word number : ℕ)
    → tested address (aligned_page memory.pages Store 4 address) ≡ Ok number → has_reserved hart address memory.reserved ≡ false
    → stored_conditionally memory hart address word ≡ Ok (false, record memory { reserved = without_reserved hart memory.reserved })
unfolding stored_conditionally plain.stored
untested memory hart address word number may not = by_page (aligned_page memory.pages Store 4 address) may
  where
    by_page : (found : Result Page MemoryFault) → tested address found ≡ Ok number
        → answer_by (stored_if (has_reserved hart address memory.reserved) memory hart address) (answer_by (memory_with memory.pages address (little_bytes 4 word)) found)
        ≡ Ok (false, record memory { reserved = without_reserved hart memory.reserved })
    by_page (Ok page) e = ap (λ h. Ok (stored_if h memory hart address (memory_with memory.pages address (little_bytes 4 word) page))) not
    by_page (Err fault) e = absurd (cc)

pub untested_fault : (memory : Memory) (hart address word : ℕ) (fault : MemoryFault)
    → tested address (aligned_page memory.pages Store 4 address) ≡ Err fault → stored_conditionally memory hart address word ≡ Err fault
unfolding stored_conditionally plain.stored
untested_fault memory hart address word fault may = by_page (aligned_page memory.pages Store 4 address) may
  where
    by_page : (found : Result Page MemoryFault) → tested address found ≡ Err fault
        → answer_by (stored_if (has_reserved hart address memory.reserved) memory hart address) (answer_by (memory_with memory.pages address (little_bytes 4 word)) found) ≡ Err fault
    by_page (Ok page) e = absurd (cc)
    by_page (Err other) e = cc

pub ruleset conditional_store = (conditional_of, conditional_fault, untested, untested_fault)
