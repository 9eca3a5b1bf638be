-- To replace a word is to load it, by a page that may be written, and to store the result.
use Rattle.std.proofs.Common.{◌≡◌, ℕ, Result, Ok, Err, ap}
use Rattle.byteorder.specs.Endian.{little_bytes}
use Rattle.page_memory.specs.declared.fault.MemoryFault.{MemoryFault}
use Rattle.page_memory.specs.declared.words.Access.TheVariants.{Store}
use Rattle.page_memory.specs.declared.words.Width.TheVariants.{Word}
use Rattle.page_memory.specs.Pages.{Page, Pages, answer_by, number_at, memory_with, aligned_page}
use Rattle.page_memory.specs.Pages as plain
use Rattle.page_memory.specs.Memory.{Memory, written, exchanged, stored, replaced}

abbrev after_storing : Memory → ℕ → ℕ → Result Page MemoryFault → Result Memory MemoryFault
after_storing memory address word page = answer_by (written memory address 4) (answer_by (memory_with memory.pages address (little_bytes 4 word)) page)

abbrev after_replacing : Memory → (ℕ → ℕ) → ℕ → Result Page MemoryFault → Result (ℕ × Memory) MemoryFault
after_replacing memory update address page = answer_by (exchanged memory address) (answer_by (plain.exchanged memory.pages update address) page)

exchanged_ok : (memory : Memory) (update : ℕ → ℕ) (address : ℕ) (page : Result Page MemoryFault) (old : ℕ) (new : Memory)
    → answer_by (number_at 4 address) page ≡ Ok old
    → after_storing memory address (update old) page ≡ Ok new
    → after_replacing memory update address page ≡ Ok (old, new)
exchanged_ok memory update address (Ok page) old new h g =
    let word : number_at 4 address page ≡ old = cc in
    let after : written memory address 4 (memory_with memory.pages address (little_bytes 4 (update old)) page) ≡ new = cc in
    rw word (ap (λ m. Ok (old, m)) after)
exchanged_ok memory update address (Err fault) old new h g = absurd (cc)

unread : (memory : Memory) (update : ℕ → ℕ) (address : ℕ) (page : Result Page MemoryFault) (fault : MemoryFault)
    → answer_by (number_at 4 address) page ≡ Err fault → after_replacing memory update address page ≡ Err fault
unread memory update address (Ok page) fault h = absurd (cc)
unread memory update address (Err other) fault h = let e : other ≡ fault = cc in ap (λ x. Err x) e

unstored : (memory : Memory) (update : ℕ → ℕ) (address word : ℕ) (page : Result Page MemoryFault) (fault : MemoryFault)
    → after_storing memory address word page ≡ Err fault → after_replacing memory update address page ≡ Err fault
unstored memory update address word (Ok page) fault h = absurd (cc)
unstored memory update address word (Err other) fault h = let e : other ≡ fault = cc in ap (λ x. Err x) e

pub replaced_ok : (memory : Memory) (update : ℕ → ℕ) (address old : ℕ) (new : Memory)
    → answer_by (number_at 4 address) (aligned_page memory.pages Store 4 address) ≡ Ok old
    → stored memory Word address (update old) ≡ Ok new
    → replaced memory update address ≡ Ok (old, new)
unfolding stored replaced plain.stored plain.replaced
replaced_ok memory update address old new h g =
    exchanged_ok memory update address (aligned_page memory.pages Store 4 address) old new h g

pub replaced_unread : (memory : Memory) (update : ℕ → ℕ) (address : ℕ) (fault : MemoryFault)
    → answer_by (number_at 4 address) (aligned_page memory.pages Store 4 address) ≡ Err fault
    → replaced memory update address ≡ Err fault
unfolding replaced plain.replaced
replaced_unread memory update address fault h = unread memory update address (aligned_page memory.pages Store 4 address) fault h

pub replaced_unstored : (memory : Memory) (update : ℕ → ℕ) (address word : ℕ) (fault : MemoryFault)
    → stored memory Word address word ≡ Err fault
    → replaced memory update address ≡ Err fault
unfolding stored replaced plain.stored plain.replaced
replaced_unstored memory update address word fault h = unstored memory update address word (aligned_page memory.pages Store 4 address) fault h

pub ruleset unreplaced = (replaced_unread, replaced_unstored)
