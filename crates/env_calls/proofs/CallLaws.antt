-- The page that a read or a write uses, by memory's answer.
use Rattle.std.specs.Prelude.{◌≡◌, ℕ, Bool, List, length, Result, Ok, Err, Contains, IsOk, refl}
use Rattle.std.proofs.Common.{subst, ◌∙◌}
use Rattle.page_memory.specs.declared.fault.MemoryFault.{MemoryFault}
use Rattle.page_memory.specs.declared.words.Access.TheVariants.{Store}
use Rattle.page_memory.specs.Words.{page_number}
use Rattle.page_memory.specs.Pages.{answer_by, memory_with, usable}
use Rattle.page_memory.specs.Pages as plain
use Rattle.page_memory.specs.Memory.{Memory, written, copied_in, copied_out}
use Rattle.rv_exec.specs.Bounds.{Bounds}
use Rattle.rv_exec.specs.Outcomes.{Used}
use Rattle.rv_exec.specs.Uses.{page_of_access}
use Rattle.rv_exec.proofs.AccessLaws.{used_allowed, used_refused, contains_page}

-- ---- reads

same_page : {A B : Type 0} (f : A → B) (address : ℕ) (found : Result A MemoryFault) → page_of_access address (answer_by f found) ≡ page_of_access address found
same_page f address (Ok answer) = refl
same_page f address (Err fault) = refl

-- bytes are copied to the page that a store may use
copied_in_page : (memory : Memory) (address : ℕ) (bytes : List ℕ) → page_of_access address (copied_in memory address bytes) ≡ page_of_access address (usable memory.pages Store address)
unfolding copied_in plain.copied_in
copied_in_page memory address bytes =
    same_page (written memory address (length bytes)) address (plain.copied_in memory.pages address bytes)
    ∙ same_page (memory_with memory.pages address bytes) address (usable memory.pages Store address)

pub read_used : (has marks : ℕ → Type 0) (memory : Memory) (address : ℕ) (bytes : List ℕ) (changed : Memory)
    → copied_in memory address bytes ≡ Ok changed → has (page_number address) → marks (page_number address)
    → Used has marks (page_of_access address (usable memory.pages Store address))
read_used has marks memory address bytes changed h page mark =
    subst (Used has marks) (copied_in_page memory address bytes) (used_allowed has marks address (copied_in memory address bytes) changed h page mark)

pub read_uses_none : (has marks : ℕ → Type 0) (memory : Memory) (address : ℕ) (bytes : List ℕ) (fault : MemoryFault)
    → copied_in memory address bytes ≡ Err fault → Used has marks (page_of_access address (usable memory.pages Store address))
read_uses_none has marks memory address bytes fault h =
    subst (Used has marks) (copied_in_page memory address bytes) (used_refused has marks address (copied_in memory address bytes) fault h)

pub read_lacks : (memory : Memory) (address page : ℕ) (bytes : List ℕ)
    → page ≡ page_number address → IsOk (copied_in memory address bytes) → Contains (page_of_access address (usable memory.pages Store address)) page
read_lacks memory address page bytes e h =
    subst (λ pages. Contains pages page) (copied_in_page memory address bytes) (contains_page address (copied_in memory address bytes) page e h)

-- what the copy may have marked
pub read_bound : (before after : (ℕ → Bool) → (ℕ → Bool) → Type 0) (memory : Memory) (address : ℕ) (bytes : List ℕ)
    → Bounds before after (page_of_access address (copied_in memory address bytes)) (page_of_access address (copied_in memory address bytes))
    → Bounds before after (page_of_access address (usable memory.pages Store address)) (page_of_access address (usable memory.pages Store address))
read_bound before after memory address bytes was = subst (λ pages. Bounds before after pages pages) (copied_in_page memory address bytes) was

pub ruleset reading = (read_used, read_uses_none, read_lacks)

-- ---- writes

pub write_used : (has marks : ℕ → Type 0) (memory : Memory) (address count : ℕ) (bytes : List ℕ)
    → copied_out memory address count ≡ Ok bytes → has (page_number address) → marks (page_number address)
    → Used has marks (page_of_access address (copied_out memory address count))
write_used has marks memory address count bytes h page mark = used_allowed has marks address (copied_out memory address count) bytes h page mark

pub write_uses_none : (has marks : ℕ → Type 0) (memory : Memory) (address count : ℕ) (fault : MemoryFault)
    → copied_out memory address count ≡ Err fault → Used has marks (page_of_access address (copied_out memory address count))
write_uses_none has marks memory address count fault h = used_refused has marks address (copied_out memory address count) fault h

pub write_lacks : (memory : Memory) (address count page : ℕ)
    → page ≡ page_number address → IsOk (copied_out memory address count) → Contains (page_of_access address (copied_out memory address count)) page
write_lacks memory address count page e h = contains_page address (copied_out memory address count) page e h

pub ruleset writing = (write_used, write_uses_none, write_lacks)
