-- What a load, a store and an atomic operation do, and the page that they use, by memory's answer.
use Rattle.std.specs.Prelude.{◌≡◌, ℕ, zero, Bool, [], Result, Ok, Err, Contains, IsOk}
use Rattle.std.proofs.Common.{arith, ap, sym, subst, refl, ◌∙◌}
use Rattle.page_memory.specs.declared.fault.MemoryFault.{MemoryFault}
use Rattle.page_memory.specs.Words.{page_number, bytes_in}
use Rattle.page_memory.specs.declared.words.Width.TheVariants.{Word}
use Rattle.page_memory.specs.Pages.{Pages, answer_by}
use Rattle.page_memory.specs.Pages as plain
use Rattle.page_memory.specs.Reservations.{has_reserved}
use Rattle.page_memory.specs.Memory.{Memory, loaded, stored, replaced, written, loaded_reserved, reserving, stored_conditionally, stored_if}
use Rattle.rv_isa.specs.declared.kinds.LoadKind.{LoadKind}
use Rattle.rv_isa.specs.declared.kinds.LoadKind.TheVariants.{Lw}
use Rattle.rv_isa.specs.declared.kinds.StoreKind.{StoreKind}
use Rattle.rv_isa.specs.declared.kinds.StoreKind.TheVariants.{Sw}
use Rattle.rv_isa.specs.declared.kinds.AmoKind.{AmoKind}
use Rattle.rv_exec.specs.Causes.{load_cause, store_cause}
use Rattle.rv_exec.specs.Registers.{Registers, with_pc, next_pc}
use Rattle.rv_exec.specs.Access.{load_width, store_width, extended}
use Rattle.rv_exec.specs.Amo.{amo_result}
use Rattle.rv_exec.specs.Line.{Next, Traps, computed, after_load, load_line, after_store, store_line, after_amo, amo_line, after_reserving, reserving_line, conditional_code, after_conditional, conditional_line}
use Rattle.rv_exec.proofs.LineLaws.{all_front, all_none}
use Rattle.rv_exec.specs.Outcomes.{Used}
use Rattle.rv_exec.specs.Uses.{page_of_access, load_pages, store_pages, amo_pages}

-- ---- the page of an access

pub used_allowed : {A : Type 0} (has marks : ℕ → Type 0) (address : ℕ) (expected : Result A MemoryFault) (answer : A)
    → expected ≡ Ok answer → has (page_number address) → marks (page_number address) → Used has marks (page_of_access address expected)
used_allowed has marks address expected answer h page mark =
    subst (λ found. Used has marks (page_of_access address found)) (sym h)
    (all_front has (page_number address) [] page (all_none has), all_front marks (page_number address) [] mark (all_none marks))

pub used_refused : {A : Type 0} (has marks : ℕ → Type 0) (address : ℕ) (expected : Result A MemoryFault) (fault : MemoryFault)
    → expected ≡ Err fault → Used has marks (page_of_access address expected)
used_refused has marks address expected fault h = subst (λ found. Used has marks (page_of_access address found)) (sym h) (all_none has, all_none marks)

pub contains_page : {A : Type 0} (address : ℕ) (expected : Result A MemoryFault) (page : ℕ)
    → page ≡ page_number address → IsOk expected → Contains (page_of_access address expected) page
contains_page address (Ok answer) page e h = (zero, omega arith, sym e)
contains_page address (Err fault) page e h = absurd (cc)

-- ---- loads

pub load_done : (regs : Registers) (memory : Memory) (kind : LoadKind) (rd address number : ℕ)
    → loaded memory (load_width kind) address ≡ Ok number
    → load_line regs memory kind rd address ≡ Next (computed regs rd (extended kind number)) memory
unfolding load_line
load_done regs memory kind rd address number h = ap (after_load regs memory kind rd address) h

pub load_traps : (regs : Registers) (memory : Memory) (kind : LoadKind) (rd address : ℕ) (fault : MemoryFault)
    → loaded memory (load_width kind) address ≡ Err fault
    → load_line regs memory kind rd address ≡ Traps (load_cause fault) address
unfolding load_line
load_traps regs memory kind rd address fault h = ap (after_load regs memory kind rd address) h

pub load_used : (has marks : ℕ → Type 0) (memory : Memory) (kind : LoadKind) (address number : ℕ)
    → loaded memory (load_width kind) address ≡ Ok number → has (page_number address) → marks (page_number address)
    → Used has marks (load_pages memory kind address)
unfolding load_pages
load_used has marks memory kind address number h page mark = used_allowed has marks address (loaded memory (load_width kind) address) number h page mark

pub load_uses_none : (has marks : ℕ → Type 0) (memory : Memory) (kind : LoadKind) (address : ℕ) (fault : MemoryFault)
    → loaded memory (load_width kind) address ≡ Err fault → Used has marks (load_pages memory kind address)
unfolding load_pages
load_uses_none has marks memory kind address fault h = used_refused has marks address (loaded memory (load_width kind) address) fault h

pub load_lacks : (memory : Memory) (kind : LoadKind) (address page : ℕ)
    → page ≡ page_number address → IsOk (loaded memory (load_width kind) address) → Contains (load_pages memory kind address) page
unfolding load_pages
load_lacks memory kind address page e h = contains_page address (loaded memory (load_width kind) address) page e h

pub ruleset loading = (load_done, load_traps, load_used, load_uses_none, load_lacks)

-- ---- stores

pub store_done : (regs : Registers) (memory : Memory) (kind : StoreKind) (address word : ℕ) (changed : Memory)
    → stored memory (store_width kind) address word ≡ Ok changed
    → store_line regs memory kind address word ≡ Next (with_pc regs (next_pc regs)) changed
unfolding store_line
store_done regs memory kind address word changed h = ap (after_store regs address) h

pub store_traps : (regs : Registers) (memory : Memory) (kind : StoreKind) (address word : ℕ) (fault : MemoryFault)
    → stored memory (store_width kind) address word ≡ Err fault
    → store_line regs memory kind address word ≡ Traps (store_cause fault) address
unfolding store_line
store_traps regs memory kind address word fault h = ap (after_store regs address) h

pub store_used : (has marks : ℕ → Type 0) (memory : Memory) (kind : StoreKind) (address word : ℕ) (changed : Memory)
    → stored memory (store_width kind) address word ≡ Ok changed → has (page_number address) → marks (page_number address)
    → Used has marks (store_pages memory kind address word)
unfolding store_pages
store_used has marks memory kind address word changed h page mark = used_allowed has marks address (stored memory (store_width kind) address word) changed h page mark

pub store_uses_none : (has marks : ℕ → Type 0) (memory : Memory) (kind : StoreKind) (address word : ℕ) (fault : MemoryFault)
    → stored memory (store_width kind) address word ≡ Err fault → Used has marks (store_pages memory kind address word)
unfolding store_pages
store_uses_none has marks memory kind address word fault h = used_refused has marks address (stored memory (store_width kind) address word) fault h

pub store_lacks : (memory : Memory) (kind : StoreKind) (address word page : ℕ)
    → page ≡ page_number address → IsOk (stored memory (store_width kind) address word)
    → Contains (store_pages memory kind address word) page
unfolding store_pages
store_lacks memory kind address word page e h = contains_page address (stored memory (store_width kind) address word) page e h

pub ruleset storing = (store_done, store_traps, store_used, store_uses_none, store_lacks)

-- ---- atomic operations

pub amo_done : (regs : Registers) (memory : Memory) (kind : AmoKind) (rd address operand old : ℕ) (changed : Memory)
    → replaced memory (λ word. amo_result kind word operand) address ≡ Ok (old, changed)
    → amo_line regs memory kind rd address operand ≡ Next (computed regs rd old) changed
unfolding amo_line
amo_done regs memory kind rd address operand old changed h = ap (after_amo regs rd address) h

pub amo_traps : (regs : Registers) (memory : Memory) (kind : AmoKind) (rd address operand : ℕ) (fault : MemoryFault)
    → replaced memory (λ word. amo_result kind word operand) address ≡ Err fault
    → amo_line regs memory kind rd address operand ≡ Traps (store_cause fault) address
unfolding amo_line
amo_traps regs memory kind rd address operand fault h = ap (after_amo regs rd address) h

pub amo_used : (has marks : ℕ → Type 0) (memory : Memory) (kind : AmoKind) (address operand : ℕ) (answer : ℕ × Memory)
    → replaced memory (λ word. amo_result kind word operand) address ≡ Ok answer → has (page_number address) → marks (page_number address)
    → Used has marks (amo_pages memory kind address operand)
unfolding amo_pages
amo_used has marks memory kind address operand answer h page mark =
    used_allowed has marks address (replaced memory (λ word. amo_result kind word operand) address) answer h page mark

pub amo_uses_none : (has marks : ℕ → Type 0) (memory : Memory) (kind : AmoKind) (address operand : ℕ) (fault : MemoryFault)
    → replaced memory (λ word. amo_result kind word operand) address ≡ Err fault → Used has marks (amo_pages memory kind address operand)
unfolding amo_pages
amo_uses_none has marks memory kind address operand fault h =
    used_refused has marks address (replaced memory (λ word. amo_result kind word operand) address) fault h

pub amo_lacks : (memory : Memory) (kind : AmoKind) (address operand page : ℕ)
    → page ≡ page_number address → IsOk (replaced memory (λ word. amo_result kind word operand) address)
    → Contains (amo_pages memory kind address operand) page
unfolding amo_pages
amo_lacks memory kind address operand page e h =
    contains_page address (replaced memory (λ word. amo_result kind word operand) address) page e h

pub ruleset replacing = (amo_done, amo_traps, amo_used, amo_uses_none, amo_lacks)

-- ---- load-reserved

page_of_mapped : {A B : Type 0} (f : A → B) (address : ℕ) (answer : Result A MemoryFault)
    → page_of_access address (answer_by f answer) ≡ page_of_access address answer
page_of_mapped f address (Ok x) = refl
page_of_mapped f address (Err fault) = refl

-- its page is that of a load of a word
pub reserving_page : (memory : Memory) (hart address : ℕ) → page_of_access address (loaded_reserved memory hart address) ≡ page_of_access address (loaded memory Word address)
unfolding loaded_reserved
reserving_page memory hart address = page_of_mapped (reserving memory hart address) address (plain.loaded memory.pages Word address)

reserving_pages : (memory : Memory) (hart address : ℕ) → page_of_access address (loaded_reserved memory hart address) ≡ load_pages memory Lw address
unfolding load_pages
reserving_pages memory hart address = reserving_page memory hart address

pub reserving_done : (hart : ℕ) (regs : Registers) (memory : Memory) (rd address word : ℕ) (changed : Memory)
    → loaded_reserved memory hart address ≡ Ok (word, changed)
    → reserving_line hart regs memory rd address ≡ Next (computed regs rd word) changed
unfolding reserving_line
reserving_done hart regs memory rd address word changed h = ap (after_reserving regs rd address) h

pub reserving_traps : (hart : ℕ) (regs : Registers) (memory : Memory) (rd address : ℕ) (fault : MemoryFault)
    → loaded_reserved memory hart address ≡ Err fault
    → reserving_line hart regs memory rd address ≡ Traps (load_cause fault) address
unfolding reserving_line
reserving_traps hart regs memory rd address fault h = ap (after_reserving regs rd address) h

pub reserving_used : (has marks : ℕ → Type 0) (memory : Memory) (hart address : ℕ) (answer : ℕ × Memory)
    → loaded_reserved memory hart address ≡ Ok answer → has (page_number address) → marks (page_number address)
    → Used has marks (load_pages memory Lw address)
reserving_used has marks memory hart address answer h page mark =
    subst (Used has marks) (reserving_pages memory hart address)
    (used_allowed has marks address (loaded_reserved memory hart address) answer h page mark)

pub reserving_uses_none : (has marks : ℕ → Type 0) (memory : Memory) (hart address : ℕ) (fault : MemoryFault)
    → loaded_reserved memory hart address ≡ Err fault → Used has marks (load_pages memory Lw address)
reserving_uses_none has marks memory hart address fault h =
    subst (Used has marks) (reserving_pages memory hart address)
    (used_refused has marks address (loaded_reserved memory hart address) fault h)

pub reserving_lacks : (memory : Memory) (hart address page : ℕ)
    → page ≡ page_number address → IsOk (loaded_reserved memory hart address) → Contains (load_pages memory Lw address) page
reserving_lacks memory hart address page e h =
    subst (λ pages. Contains pages page) (reserving_pages memory hart address)
    (contains_page address (loaded_reserved memory hart address) page e h)

pub ruleset reserving_word = (reserving_done, reserving_traps, reserving_used, reserving_uses_none, reserving_lacks)

-- ---- store-conditional

-- its page is that of a store of a word
pub conditional_page : (memory : Memory) (hart address word : ℕ)
    → page_of_access address (stored_conditionally memory hart address word) ≡ page_of_access address (stored memory Word address word)
unfolding stored_conditionally stored
conditional_page memory hart address word =
    let answer = plain.stored memory.pages Word address word in
    page_of_mapped (stored_if (has_reserved hart address memory.reserved) memory hart address) address answer
    ∙ sym (page_of_mapped (written memory address (bytes_in Word)) address answer)

conditional_pages : (memory : Memory) (hart address word : ℕ)
    → page_of_access address (stored_conditionally memory hart address word) ≡ store_pages memory Sw address word
unfolding store_pages
conditional_pages memory hart address word = conditional_page memory hart address word

pub conditional_done : (hart : ℕ) (regs : Registers) (memory : Memory) (rd address word : ℕ) (is_stored : Bool) (changed : Memory)
    → stored_conditionally memory hart address word ≡ Ok (is_stored, changed)
    → conditional_line hart regs memory rd address word ≡ Next (computed regs rd (conditional_code is_stored)) changed
unfolding conditional_line
conditional_done hart regs memory rd address word is_stored changed h = ap (after_conditional regs rd address) h

pub conditional_traps : (hart : ℕ) (regs : Registers) (memory : Memory) (rd address word : ℕ) (fault : MemoryFault)
    → stored_conditionally memory hart address word ≡ Err fault
    → conditional_line hart regs memory rd address word ≡ Traps (store_cause fault) address
unfolding conditional_line
conditional_traps hart regs memory rd address word fault h = ap (after_conditional regs rd address) h

pub conditional_used : (has marks : ℕ → Type 0) (memory : Memory) (hart address word : ℕ) (answer : Bool × Memory)
    → stored_conditionally memory hart address word ≡ Ok answer → has (page_number address) → marks (page_number address)
    → Used has marks (store_pages memory Sw address word)
conditional_used has marks memory hart address word answer h page mark =
    subst (Used has marks) (conditional_pages memory hart address word)
    (used_allowed has marks address (stored_conditionally memory hart address word) answer h page mark)

pub conditional_uses_none : (has marks : ℕ → Type 0) (memory : Memory) (hart address word : ℕ) (fault : MemoryFault)
    → stored_conditionally memory hart address word ≡ Err fault → Used has marks (store_pages memory Sw address word)
conditional_uses_none has marks memory hart address word fault h =
    subst (Used has marks) (conditional_pages memory hart address word)
    (used_refused has marks address (stored_conditionally memory hart address word) fault h)

pub conditional_lacks : (memory : Memory) (hart address word page : ℕ)
    → page ≡ page_number address → IsOk (stored_conditionally memory hart address word)
    → Contains (store_pages memory Sw address word) page
conditional_lacks memory hart address word page e h =
    subst (λ pages. Contains pages page) (conditional_pages memory hart address word)
    (contains_page address (stored_conditionally memory hart address word) page e h)

pub ruleset storing_word = (conditional_done, conditional_traps, conditional_used, conditional_uses_none, conditional_lacks)
